-- What the mend of the rule on the space bitmap, number 12, writes (ECMA-167 4/14.12, OSTA UDF 2.3.8).
use Rattle.std.specs.Prelude.{◌≡◌, ◌<◌, ◌≤◌, ◌+◌, ◌^◌, ℕ, Bool, if◌then◌else◌, Option, Some, None, true, List, [], length, map}
use Rattle.std.specs.List.{range_with_len}
use Rattle.udf_field.specs.declared.address.Addr.{Addr}
use Rattle.udf_field.specs.declared.address.Short.{Short}
use Rattle.udf_model.specs.Bytes.{number_at}
use Rattle.udf_file_model.specs.Address.{addr}
use Rattle.udf_file_model.specs.Front.{blocks_for}
use Rattle.udf_file_model.specs.Listing.{Volume, is_placed}
use Rattle.udf_space.specs.Area.{encoded}
use Rattle.udf_space.specs.Bits.{bytes_for}
use Rattle.udf_tree_model.specs.Claimed.{is_free}
use Rattle.udf_tree_model.specs.Frame.{Frame}
use Rattle.udf_rules_model.specs.Bitmap.{area_of, bitmap_holds}
use Rattle.udf_file_mends.specs.Mends.{edits_of}
use Rattle.udf_file_mends.specs.Spread.{spread_from}

-- the bits of a partition of so many blocks: 1 where the block is free
unfoldable pub free_bits : Frame → Volume → ℕ → List Bool
free_bits f v blocks = map (λ n. is_free f v (addr 0 n)) (range_with_len 0 blocks)

-- the extent with a bitmap of these bits, whose tag has the version and the serial number of the logical volume descriptor's
unfoldable pub mended_area : Frame → Volume → List ℕ → ℕ → Short → List ℕ
mended_area f v logical blocks extent =
    encoded (number_at 2 logical 2) (number_at 2 logical 6) extent.block (free_bits f v blocks) (area_of v extent)

abbrev pub bitmap_edits_by : Frame → Volume → List ℕ → ℕ → Option Short → List (ℕ × List ℕ)
bitmap_edits_by f v logical blocks None = []
bitmap_edits_by f v logical blocks (Some extent) =
    if bitmap_holds f v blocks extent then []
    else edits_of v (spread_from v 0 extent.block (blocks_for v.size extent.length) (mended_area f v logical blocks extent))

-- where the rule is broken, the bitmap of what is free after the mend; what stands behind it stays
unfoldable pub bitmap_edits : Frame → Volume → List ℕ → ℕ → Option Short → List (ℕ × List ℕ)
bitmap_edits f v logical blocks bitmap = bitmap_edits_by f v logical blocks bitmap

-- the extent of a bitmap stands whole in the volume, and holds a bitmap of so many blocks
pub record IsBitmapPlaced (v : Volume) (blocks : ℕ) (extent : Short) : Type 0 where
  pub size : 0 < v.size
  pub few : blocks < 2 ^ 32
  pub low : extent.block < 2 ^ 32
  pub room : 24 + bytes_for blocks ≤ extent.length
  pub placed : (k : ℕ) → k < blocks_for v.size extent.length → is_placed v (addr 0 (extent.block + k)) ≡ true
  pub whole : (a : Addr) (sector : ℕ) → v.place a ≡ Some sector → length (v.disk sector) ≡ v.size
  pub apart : (a b : Addr) (sector : ℕ) → v.place a ≡ Some sector → v.place b ≡ Some sector → a ≡ b
