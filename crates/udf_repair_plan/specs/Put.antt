-- What the planners of all rules put on an image, one rule after another.
use Rattle.std.specs.Prelude.{ℕ, List, ◌++◌}
use Rattle.udf_model.specs.Image.{block_of}
use Rattle.udf_file_model.specs.Listing as listing
use Rattle.udf_tree_model.specs.Frame.{Frame}
use Rattle.udf_volume_model.specs.Opened.{plan_of, volume_mended}
use Rattle.udf_volume.specs.declared.volume.Volume.{Volume}
use Rattle.udf_file_mends.specs.FileSet.{file_set_edits}
use Rattle.udf_file_mends.specs.Mends.{file_edits}
use Rattle.udf_space_mends.specs.BitmapMend.{bitmap_edits}
use Rattle.udf_space_mends.specs.IntegrityMend.{integrity_edits, origin_of}
use Rattle.udf_space_mends.specs.SlotMend.{recognition_edits}
use Rattle.udf_rules_model.specs.Files.{files_in, frame_in}
use Rattle.udf_rules_model.specs.Findings.{recognition_of}
use Rattle.udf_wanted.specs.Wanted.{differing}

-- of kept entries and of the file set what differs, then all of the bitmap and of the integrity descriptor
abbrev pub put_for_files : Volume → (ℕ → List ℕ) → Frame → listing.Volume → List (ℕ × List ℕ) → List (ℕ × List ℕ)
put_for_files volume disk f v behind =
    differing disk (file_edits f v)
    ++ (differing disk (file_set_edits f v)
    ++ (bitmap_edits f v (disk volume.lvd) volume.length volume.bitmap
    ++ (integrity_edits f v volume.length volume.bitmap (origin_of (disk volume.pvd) (disk volume.lvd)) volume.integrity ++ behind)))

-- of the recognition sequence, of files and space, and last the plan of the volume's own mend
abbrev pub all_put : Volume → List ℕ → List (ℕ × List ℕ)
all_put volume image =
    recognition_edits (recognition_of volume image) (block_of volume.size image volume.pd)
    ++ put_for_files volume (block_of volume.size image) (frame_in volume image) (files_in volume image)
    (plan_of volume.size image (volume_mended volume.size image))
