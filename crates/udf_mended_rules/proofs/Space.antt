-- The rules on the space bitmap and on integrity, on a disk that has their mends too.
use Rattle.std.proofs.Common.{◌≡◌, ℕ, ◌+◌, ap, true, List, length, Option, Some}
use Rattle.udf_field.specs.declared.address.Short.{Short}
use Rattle.udf_field.specs.declared.address.Span.{Span}
use Rattle.udf_file_model.specs.Address.{addr}
use Rattle.udf_file_model.specs.Front.{blocks_for}
use Rattle.udf_file_model.specs.Listing.{Volume, with_disk}
use Rattle.udf_tree_model.specs.Claimed.{is_free}
use Rattle.udf_tree_model.specs.Frame.{Frame}
use Rattle.udf_rules_model.specs.Bitmap.{bitmap_holds, free_blocks}
use Rattle.udf_rules_model.specs.Integrity.{integrity_holds}
use Rattle.udf_file_mends.specs.FileSet.{frame_after}
use Rattle.udf_space_mends.specs.BitmapMend.{IsBitmapPlaced, bitmap_edits}
use Rattle.udf_space_mends.specs.IntegrityMend.{CountsFit, HasExtentEdits, IsExtentPlaced, Origin, SameCounts, integrity_edits}
use Rattle.udf_space_mends.specs.Spread.{HasEdits}
use Rattle.udf_space_mends.proofs.Freeing.{bitmap_mended, count_same}
use Rattle.udf_space_mends.proofs.Integral.{integrity_mended}
use Rattle.udf_count_laws.proofs.Counting.{files_named_same, ordinary_directories_same, ordinary_files_same}
use Rattle.udf_count_laws.proofs.Identifying.{greatest_same}
use Rattle.udf_mended_rules.specs.AllMends.{HasAllMends}
use Rattle.udf_mended_rules.proofs.Alike.{alike, states}
use Rattle.udf_mended_rules.proofs.Free.{free_same}

module _ (f : Frame) (v : Volume) (disk : ℕ → List ℕ) (h : HasAllMends f v disk) where
  abbrev w : Volume
  w = with_disk v disk

  abbrev g : Frame
  g = frame_after f v

  free_blocks_same : (blocks : ℕ) → free_blocks g w blocks ≡ free_blocks f v blocks
  unfolding free_blocks
  free_blocks_same blocks =
      count_same (λ n. is_free f v (addr 0 n)) (λ n. is_free g w (addr 0 n)) 0 blocks (λ k l. free_same f v disk h (addr 0 (0 + k)))

  pub counted : (blocks : ℕ) → SameCounts f g v w blocks
  counted blocks = record {
    free = free_blocks_same blocks;
    id = greatest_same f g v w (alike f v disk h) (states f v disk h);
    files = ap length (ordinary_files_same f g v w (alike f v disk h));
    named = files_named_same f g v w (alike f v disk h);
    directories = ap length (ordinary_directories_same f g v w (alike f v disk h));
  }

  pub bitmap_unbroken : (logical : List ℕ) (blocks : ℕ) (extent : Short) → IsBitmapPlaced v blocks extent
      → HasEdits v (addr 0 extent.block) (blocks_for v.size extent.length) (bitmap_edits f v logical blocks (Some extent)) disk
      → bitmap_holds (frame_after f v) (with_disk v disk) blocks extent ≡ true
  bitmap_unbroken logical blocks extent placed edits =
      bitmap_mended f g v logical blocks extent disk placed (λ n l. free_same f v disk h (addr 0 n)) edits

  pub integrity_unbroken : (blocks : ℕ) (bitmap : Option Short) (origin : Origin) (extent : Span) → CountsFit f v blocks origin → IsExtentPlaced v extent
      → HasExtentEdits v extent (integrity_edits f v blocks bitmap origin extent) disk
      → integrity_holds (frame_after f v) (with_disk v disk) blocks bitmap extent ≡ true
  integrity_unbroken blocks bitmap origin extent fit placed edits =
      integrity_mended f g v disk blocks bitmap origin extent fit placed (counted blocks) edits
