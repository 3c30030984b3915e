-- Descriptor tags (ECMA-167 3/7.2): identifier at 0, version at 2, checksum at 4, serial number at 6, CRC at 8,
-- CRC length at 10, location at 12.
use Rattle.std.specs.Prelude.{◌≡◌, ℕ, Bool, false, ◌+◌, ◌%◌, ◌≤◌, ◌==◌, ◌&&◌, nat_le, Option, Some, None, if◌then◌else◌, List, ◌++◌, ◌∷◌, length, take, drop, slice_index, sum}
use Rattle.udf_model.specs.Bytes.{number_at, with_number}
use Rattle.udf_model.specs.Crc.{IsCrc, crc_of}

-- 3/7.2.3: the sum of the other fifteen bytes of a tag, modulo 256
unfoldable pub checksum_of : List ℕ → ℕ
checksum_of area = (sum (take 4 area) + sum (take 11 (drop 5 area))) % 256

abbrev pub identifier : List ℕ → ℕ
identifier area = number_at 2 area 0

abbrev pub crc_length : List ℕ → ℕ
crc_length area = number_at 2 area 10

abbrev pub location : List ℕ → ℕ
location area = number_at 4 area 12

-- 3/7.2.6: the bytes that the CRC covers
abbrev pub covered : List ℕ → List ℕ
covered area = take (crc_length area) (drop 16 area)

-- a whole tag begins the area
pub record IsWhole (area : List ℕ) : Type 0 where
  pub room : 16 + crc_length area ≤ length area
  pub checksum : slice_index area 4 ≡ checksum_of area
  pub crc : IsCrc (covered area) (number_at 2 area 8)

-- the test of it; `tag_law` says that the two agree
unfoldable pub is_whole : List ℕ → Bool
is_whole area =
    nat_le (16 + crc_length area) (length area)
    && ((slice_index area 4 == checksum_of area) && (crc_of (covered area) == number_at 2 area 8))

-- the identifier of an area that a whole tag begins
unfoldable pub whole_id : List ℕ → Option ℕ
whole_id area = if is_whole area then Some (identifier area) else None

-- the identifier of an area that is whole at a location (3/7.2.8)
unfoldable pub id_at : ℕ → List ℕ → Option ℕ
id_at at area = if is_whole area && (location area == at) then Some (identifier area) else None

abbrev pub is_id : ℕ → Option ℕ → Bool
is_id id None = false
is_id id (Some found) = found == id

-- the area with its checksum made anew
unfoldable pub summed : List ℕ → List ℕ
summed area = take 4 area ++ (checksum_of area ∷ drop 5 area)

-- the area at another location: its tag's location and checksum are new
unfoldable pub relocated : ℕ → List ℕ → List ℕ
relocated at area = summed (with_number 4 12 at area)

-- the area with its tag made anew over so many bytes: CRC length, CRC, location and checksum are new
unfoldable pub retagged : ℕ → ℕ → List ℕ → List ℕ
retagged at many area = relocated at (with_number 2 8 (crc_of (take many (drop 16 area))) (with_number 2 10 many area))
