-- The free blocks of a volume's partition, as they are counted.
use Rattle.std.proofs.Common.{◌≡◌, ◌<◌, ℕ, Bool, true, List, map, Option, Some, None, sym, ap, ◌∙◌, subst}
use Rattle.std.specs.Prelude.{count_by, is_some}
use Rattle.std.specs.List.{range_with_len}
use Rattle.udf_field.specs.declared.address.Short.{Short}
use Rattle.udf_field.specs.declared.address.Addr.{Addr}
use Rattle.udf_file_model.specs.Address.{Places, addr, lone_places}
use Rattle.udf_file_model.specs.Listing.{Volume}
use Rattle.udf_tree_model.specs.Claimed.{is_free}
use Rattle.udf_tree_model.specs.Frame.{Frame}
use Rattle.udf_volume.specs.Areas.{partition_stated}
use Rattle.udf_volume.specs.declared.volume.Volume as code
use Rattle.udf_rules_model.specs.Bitmap.{free_blocks}
use Rattle.udf_rules_model.specs.Places.{place_by}
use Rattle.udf_dues.proofs.Balancing.{count_map}
use Rattle.udf_free.specs.Free.{StandsWhole, free_bits}
use Rattle.udf_free.proofs.Standing.{stands_whole}
use Rattle.udf_files.specs.Files.{AreOverVolume, places_in}
use Rattle.udf_files.specs.declared.files.Files.{Files}
use Rattle.udf_file_rules.specs.Right.{IsFreeCount}

-- each block of the partition is placed
pub partition_stands : (volume : code.Volume) (files : Files) → AreOverVolume volume files → StandsWhole (places_in files) volume.length
partition_stands volume files over n low =
    ap is_some (over.placed (addr 0 n)) ∙ stands_whole (partition_stated volume) over.table n low

-- the bits that are set are the free blocks
pub free_counted : (f : Frame) (v : Volume) (blocks : ℕ) (bits : List Bool) → bits ≡ free_bits f v blocks → count_by (λ b. b) bits ≡ free_blocks f v blocks
unfolding free_bits free_blocks
free_counted f v blocks bits e = ap (count_by (λ b. b)) e ∙ count_map (λ b. b) (λ n. is_free f v (addr 0 n)) (range_with_len 0 blocks)

pub is_free_count : (f : Frame) (v : Volume) (blocks free : ℕ) (bitmap : Option Short) → free ≡ free_blocks f v blocks → IsFreeCount f v blocks bitmap free
is_free_count f v blocks free None e = tt
is_free_count f v blocks free (Some extent) e = e
