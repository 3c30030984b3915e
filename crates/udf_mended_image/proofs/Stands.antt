-- What a mended image has at the sectors of a volume that a repair accepts.
use Rattle.std.proofs.Common.{◌≡◌, ℕ, true, false, Some, List, length}
use Rattle.udf_field.specs.declared.address.Addr.{Addr}
use Rattle.udf_field.specs.declared.address.Short.{Short}
use Rattle.udf_model.specs.Image.{block_of, blocks_in}
use Rattle.udf_model.specs.Tag.{id_at, is_id}
use Rattle.udf_file_model.specs.Address.{addr}
use Rattle.udf_file_model.specs.Content.{block_at}
use Rattle.udf_file_model.specs.CutEntry.{AreBytes}
use Rattle.udf_file_model.specs.Front.{blocks_for}
use Rattle.udf_file_model.specs.Listing.{with_disk}
use Rattle.udf_file_model.specs.Listing as listing
use Rattle.udf_tree_model.specs.Frame.{Frame}
use Rattle.udf_volume_model.specs.Edits.{look}
use Rattle.udf_volume_model.specs.Kept.{KeptSequence, kept_sequence_of}
use Rattle.udf_volume_model.specs.Opened.{volume_mended}
use Rattle.udf_volume_model.specs.Plans.{IsRewrite}
use Rattle.udf_volume_model.specs.Same.{is_read}
use Rattle.udf_volume.specs.declared.volume.Volume.{Volume}
use Rattle.udf_volume_model.specs.FileSet.{in_bitmap}
use Rattle.udf_rules_model.specs.Files.{files_in, frame_in, site_in}
use Rattle.udf_rules_model.specs.Findings.{recognition_of}
use Rattle.udf_rules_model.specs.Recognition.{is_untaken}
use Rattle.udf_file_mends.specs.FileSet.{mended_set}
use Rattle.udf_mended_rules.specs.AllMends.{HasAllMends}
use Rattle.udf_space_mends.specs.BitmapMend.{IsBitmapPlaced, bitmap_edits}
use Rattle.udf_space_mends.specs.IntegrityMend.{HasExtentEdits, IsExtentPlaced, integrity_edits, origin_of}
use Rattle.udf_space_mends.specs.SlotMend.{recognition_edits}
use Rattle.udf_space_mends.specs.Spread.{HasEdits}

module _ (size : ℕ) (image after : List ℕ) (volume : Volume) where
  abbrev disk : ℕ → List ℕ
  disk = block_of size image

  abbrev there : ℕ → List ℕ
  there = block_of size after

  abbrev f : Frame
  f = frame_in volume image

  abbrev v : listing.Volume
  v = files_in volume image

  pub record Stands : Type 0 where
    pub rewrites : IsRewrite size image after
    pub bytes : AreBytes there
    pub whole : (x : Addr) (n : ℕ) → v.place x ≡ Some n → length (there n) ≡ size
    pub files : HasAllMends f v there
    -- the block of the file set stays but for its pointer, also where it holds none
    pub set : block_at (with_disk v there) f.file_set ≡ mended_set f v
    pub bitmap_placed : (extent : Short) → volume.bitmap ≡ Some extent → IsBitmapPlaced v volume.length extent
    pub bitmap : (extent : Short) → volume.bitmap ≡ Some extent
        → HasEdits v (addr 0 extent.block) (blocks_for size extent.length) (bitmap_edits f v (disk volume.lvd) volume.length (Some extent)) there
    pub integrity_placed : IsExtentPlaced v volume.integrity
    pub integrity : HasExtentEdits v volume.integrity
        (integrity_edits f v volume.length volume.bitmap (origin_of (disk volume.pvd) (disk volume.lvd)) volume.integrity) there
    pub recognition : (n : ℕ) → is_untaken (recognition_of volume image) n ≡ true
        → there n ≡ look n (recognition_edits (recognition_of volume image) (disk volume.pd)) (disk n)
    -- what the volume, its refusals and its rules are read from is as its own mend leaves it
    pub read : (s : KeptSequence) → kept_sequence_of size (volume_mended size image) ≡ Some s → (n : ℕ)
        → is_read size (blocks_in size image) (block_of size (volume_mended size image)) s n ≡ true → there n ≡ block_of size (volume_mended size image) n
    -- at the address after the file set's extent, where that is none of the bitmap's, a terminating descriptor stands where one
    -- stood, and nowhere else
    pub behind : in_bitmap (site_in volume image) f.after ≡ false → (n : ℕ) → v.place f.after ≡ Some n → is_id 8 (id_at f.after.block (there n)) ≡ is_id 8 (id_at f.after.block (disk n))
