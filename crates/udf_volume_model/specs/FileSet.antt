-- The file set of a volume (ECMA-167 4/14.1): the descriptor at the head of the extent that the logical volume names, the volumes
-- that are refused for it, and the addresses that no file may take.
use Rattle.std.specs.Prelude.{ℕ, Bool, false, not, ◌+◌, ◌%◌, ◌==◌, ◌&&◌, ◌||◌, nat_le, nat_lt, if◌then◌else◌, Option, Some, None, is_some, List, [], slice_index}
use Rattle.std.specs.List.{list_all, list_any, range_with_len}
use Rattle.udf_model.specs.Tag.{id_at, is_id}
use Rattle.udf_field.specs.FieldView.{long_at}
use Rattle.udf_field.specs.declared.address.Addr.{Addr}
use Rattle.udf_field.specs.declared.address.Short.{Short}
use Rattle.udf_field.specs.declared.address.Long.{Long}
use Rattle.udf_volume_model.specs.Anchor.{blocks_for}

-- where a file set lies
pub record Site : Type 0 where
  -- the bytes of a block
  pub size : ℕ
  -- the block of each sector
  pub disk : ℕ → List ℕ
  -- the sector at which an address stands
  pub place : Addr → Option ℕ
  -- an upper partition stands on the address
  pub inner : Addr → Bool
  -- the reference of the base partition
  pub base : ℕ
  -- the extent of the space bitmap, in the base partition
  pub bitmap : Option Short
  -- the extent of the file set
  pub extent : Long

abbrev pub address : ℕ → ℕ → Addr
address part block = record { part = part; block = block }

-- one of so many blocks from an address on has the other address
unfoldable pub stretch_has : Addr → ℕ → Addr → Bool
stretch_has at blocks a = (at.part == a.part) && (nat_le at.block a.block && nat_lt a.block (at.block + blocks))

-- the blocks of the extent
abbrev pub extent_blocks : Site → ℕ
extent_blocks s = blocks_for s.size s.extent.length

abbrev pub in_extent : Site → Addr → Bool
in_extent s a = stretch_has s.extent.at (extent_blocks s) a

abbrev pub in_bitmap_by : ℕ → ℕ → Option Short → Addr → Bool
in_bitmap_by size base None a = false
in_bitmap_by size base (Some bitmap) a = stretch_has (address base bitmap.block) (blocks_for size bitmap.length) a

-- the extent of the bitmap has the address
unfoldable pub in_bitmap : Site → Addr → Bool
in_bitmap s a = in_bitmap_by s.size s.base s.bitmap a

-- each address of so many blocks from one on is in a set
unfoldable pub is_within : (Addr → Bool) → Addr → ℕ → Bool
is_within set at blocks = list_all (λ block. set (address at.part block)) (range_with_len at.block blocks)

-- some address of them is
unfoldable pub touches : (Addr → Bool) → Addr → ℕ → Bool
touches set at blocks = list_any (λ block. set (address at.part block)) (range_with_len at.block blocks)

-- the extent is placed whole, and shares no address with that of the bitmap, nor with an upper partition
unfoldable pub is_clear : Site → Bool
is_clear s =
    is_within (λ a. is_some (s.place a)) s.extent.at (extent_blocks s)
    && (not (touches (in_bitmap s) s.extent.at (extent_blocks s)) && not (touches s.inner s.extent.at (extent_blocks s)))

abbrev pub id_by : (ℕ → List ℕ) → ℕ → Option ℕ → Option ℕ
id_by disk location None = None
id_by disk location (Some sector) = id_at location (disk sector)

-- the identifier of the block that stands whole at an address
unfoldable pub id_of : Site → Addr → Option ℕ
id_of s a = id_by s.disk a.block (s.place a)

abbrev pub bytes_by : (ℕ → List ℕ) → Option ℕ → List ℕ
bytes_by disk None = []
bytes_by disk (Some sector) = disk sector

-- the bytes of the first block of the extent
unfoldable pub first_block : Site → List ℕ
first_block s = bytes_by s.disk (s.place s.extent.at)

-- a file set descriptor (identifier 256) stands whole in the first block of the extent; one of length 0 has none
unfoldable pub has_file_set : Site → Bool
has_file_set s = not (s.extent.length == 0) && is_id 256 (id_of s s.extent.at)

-- 4/14.1.17: the next extent of file sets is there, where its length is not 0
unfoldable pub names_further : List ℕ → Bool
names_further bytes = not ((long_at bytes 448).length == 0)

pub data Refusal : Type 0 where
  FileSet : Refusal
  FileSets : Refusal

-- the first refusal that applies
unfoldable pub refusal : Site → Option Refusal
refusal s =
    if is_clear s && has_file_set s then (if names_further (first_block s) then Some FileSets else None) else Some FileSet

-- 4/14.1.15: the address of the root directory's entry
unfoldable pub root_in : List ℕ → Addr
root_in bytes = (long_at bytes 400).at

-- an allocation descriptor of length 0 names nothing
abbrev pub pointed : Long → Option Addr
pointed long = if long.length == 0 then None else Some long.at

-- 4/14.1.18: the address that the pointer to the system stream directory names
unfoldable pub system_in : List ℕ → Option Addr
system_in bytes = pointed (long_at bytes 464)

-- UDF 2.1.5.3: hard or soft write protection stands in the suffix of the domain at 416 (4/14.1.16)
unfoldable pub is_guarded_in : List ℕ → Bool
is_guarded_in bytes = not (slice_index bytes (416 + 26) % 4 == 0)

-- the address after the extent
unfoldable pub after : Site → Addr
after s = address s.extent.at.part (s.extent.at.block + extent_blocks s)

-- a terminating descriptor (4/14.2, identifier 8) stands whole at the address, which is that after the extent
unfoldable pub is_terminator : Site → Addr → Bool
is_terminator s a = stretch_has (after s) 1 a && is_id 8 (id_of s (after s))

-- no file may take the address: one of both extents, or that of the terminating descriptor after the file set's; an upper partition,
-- which no volume of this profile has, would have its inner blocks beside
unfoldable pub is_fixed : Site → Addr → Bool
is_fixed s a = in_bitmap s a || (in_extent s a || is_terminator s a)
