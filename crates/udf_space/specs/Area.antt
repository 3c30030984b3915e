-- Space bitmap descriptors (ECMA-167 4/14.12): a tag, the number of bits at 16, the number of bytes at 20, and from 24
-- on the bytes of the bits.
use Rattle.std.specs.Prelude.{ℕ, ◌==◌, ◌&&◌, Bool, Option, Some, None, if◌then◌else◌, List, length, drop}
use Rattle.udf_model.specs.Bytes.{number_at, with_number, written_at}
use Rattle.udf_model.specs.Tag.{is_id, whole_id, retagged}
use Rattle.udf_space.specs.Bits.{bytes_for, bits_of, packed}

-- 4/14.12.2 and 4/14.12.3: the counts of an area are those of so many blocks
unfoldable pub has_counts : ℕ → List ℕ → Bool
has_counts blocks area = (number_at 4 area 16 == blocks) && (number_at 4 area 20 == bytes_for blocks)

-- 4/7.2.1: the area is that of a lawful bitmap of so many blocks, wherever its tag says that it stands
unfoldable pub is_bitmap : ℕ → List ℕ → Bool
is_bitmap blocks area = is_id 264 (whole_id area) && has_counts blocks area

-- the bits of a lawful bitmap of so many blocks; bits past them mean nothing
unfoldable pub bitmap_in : ℕ → List ℕ → Option (List Bool)
bitmap_in blocks area = if is_bitmap blocks area then Some (bits_of blocks (drop 24 area)) else None

-- 3/7.2, 4/14.12.2 and 4/14.12.3: the area with identifier, version, reserved byte, serial number and both counts of a
-- bitmap of so many blocks
unfoldable pub headed : ℕ → ℕ → ℕ → List ℕ → List ℕ
headed version serial blocks area =
    with_number 4 20 (bytes_for blocks) (with_number 4 16 blocks
    (with_number 2 6 serial (with_number 1 5 0 (with_number 2 2 version (with_number 2 0 264 area)))))

-- OSTA UDF 2.3.8.1: the area with a bitmap of these bits, whose tag has a CRC over no bytes: CRC length 0 and CRC 0.
-- What stands after the bytes of the bits stays.
unfoldable pub encoded : ℕ → ℕ → ℕ → List Bool → List ℕ → List ℕ
encoded version serial location bits area =
    retagged location 0 (headed version serial (length bits) (written_at 24 (packed bits) area))
