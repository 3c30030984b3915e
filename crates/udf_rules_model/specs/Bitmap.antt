-- The rule on the space bitmap, number 12 (ECMA-167 4/14.12): its tag is whole at its first block, its counts are those of the
-- partition's blocks, and each bit is 1 exactly where its block is free. Bits past the blocks mean nothing.
use Rattle.std.specs.Prelude.{ℕ, Bool, true, false, not, ◌&&◌, ◌==◌, count_by, take, drop, if◌then◌else◌, List, [], Option, Some, None, length}
use Rattle.std.specs.List.{range_with_len}
use Rattle.udf_field.specs.declared.address.Short.{Short}
use Rattle.udf_model.specs.Tag.{id_at, is_id}
use Rattle.udf_file_model.specs.Address.{addr}
use Rattle.udf_file_model.specs.Content.{blocks_from}
use Rattle.udf_file_model.specs.Front.{blocks_for}
use Rattle.udf_file_model.specs.Listing.{Volume}
use Rattle.udf_space.specs.Area.{is_bitmap}
use Rattle.udf_space.specs.Bits.{bit_of}
use Rattle.udf_volume_model.specs.Rules.{Finding}
use Rattle.udf_tree_model.specs.Claimed.{is_free}
use Rattle.udf_tree_model.specs.Frame.{Frame}
use Rattle.udf_rules_model.specs.Found.{found_at, unless}

-- the bytes of the extent of a bitmap in the base partition
unfoldable pub area_of : Volume → Short → List ℕ
area_of v extent = take extent.length (blocks_from v 0 extent.block (blocks_for v.size extent.length))

-- the header of a bitmap of so many blocks stands whole at its place
unfoldable pub is_headed : ℕ → Short → List ℕ → Bool
is_headed blocks extent area = is_id 264 (id_at extent.block area) && is_bitmap blocks area

-- the free blocks of the partition
unfoldable pub free_blocks : Frame → Volume → ℕ → ℕ
free_blocks f v blocks = count_by (λ n. is_free f v (addr 0 n)) (range_with_len 0 blocks)

abbrev pub same_bit : Bool → Bool → Bool
same_bit a b = if a then b else not b

-- the bits that are wrong
unfoldable pub wrong_bits : Frame → Volume → ℕ → List ℕ → ℕ
wrong_bits f v blocks area =
    count_by (λ n. not (same_bit (bit_of (drop 24 area) n) (is_free f v (addr 0 n)))) (range_with_len 0 blocks)

-- The rule on the bitmap of a partition of so many blocks.
unfoldable pub bitmap_holds : Frame → Volume → ℕ → Short → Bool
bitmap_holds f v blocks extent =
    is_headed blocks extent (area_of v extent) && (wrong_bits f v blocks (area_of v extent) == 0)

abbrev pub bitmap_rule_by : Frame → Volume → ℕ → Option Short → Bool
bitmap_rule_by f v blocks None = true
bitmap_rule_by f v blocks (Some extent) = bitmap_holds f v blocks extent

-- it binds where the partition names a bitmap
unfoldable pub bitmap_rule : Frame → Volume → ℕ → Option Short → Bool
bitmap_rule f v blocks bitmap = bitmap_rule_by f v blocks bitmap

-- the number of wrong bits, or of all where the header is wrong
abbrev pub wrong_in : Frame → Volume → ℕ → Short → ℕ
wrong_in f v blocks extent =
    if is_headed blocks extent (area_of v extent) then wrong_bits f v blocks (area_of v extent) else blocks

abbrev pub bitmap_findings_by : Frame → Volume → ℕ → Option Short → List Finding
bitmap_findings_by f v blocks None = []
bitmap_findings_by f v blocks (Some extent) =
    unless (bitmap_holds f v blocks extent) (found_at 12 (addr 0 0) (wrong_in f v blocks extent) (free_blocks f v blocks))

-- block 0 of the base partition, with the number of wrong bits and that of free blocks; nothing without a bitmap
unfoldable pub bitmap_findings : Frame → Volume → ℕ → Option Short → List Finding
bitmap_findings f v blocks bitmap = bitmap_findings_by f v blocks bitmap
