-- What the mends of the rules on the recognition sequence, on files and on space write, as blocks at sectors.
use Rattle.std.specs.Prelude.{ℕ, List, ◌++◌}
use Rattle.udf_model.specs.Image.{block_of}
use Rattle.udf_file_model.specs.Listing as listing
use Rattle.udf_tree_model.specs.Frame.{Frame}
use Rattle.udf_volume.specs.declared.volume.Volume.{Volume}
use Rattle.udf_file_mends.specs.Mends.{file_edits}
use Rattle.udf_file_mends.specs.FileSet.{file_set_edits}
use Rattle.udf_space_mends.specs.SlotMend.{recognition_edits}
use Rattle.udf_space_mends.specs.BitmapMend.{bitmap_edits}
use Rattle.udf_space_mends.specs.IntegrityMend.{integrity_edits, origin_of}
use Rattle.udf_rules_model.specs.Files.{files_in, frame_in}
use Rattle.udf_rules_model.specs.Findings.{recognition_of}

-- of the space bitmap and of the integrity descriptor, on a disk
abbrev pub space_edits_by : Volume → (ℕ → List ℕ) → Frame → listing.Volume → List (ℕ × List ℕ)
space_edits_by volume disk f v =
    bitmap_edits f v (disk volume.lvd) volume.length volume.bitmap
    ++ integrity_edits f v volume.length volume.bitmap (origin_of (disk volume.pvd) (disk volume.lvd)) volume.integrity

-- of kept entries and of the file set, of the bitmap and of the integrity descriptor
abbrev pub file_edits_by : Volume → (ℕ → List ℕ) → Frame → listing.Volume → List (ℕ × List ℕ)
file_edits_by volume disk f v = file_edits f v ++ (file_set_edits f v ++ space_edits_by volume disk f v)

-- of all these rules
unfoldable pub further_edits : Volume → List ℕ → List (ℕ × List ℕ)
further_edits volume image =
    recognition_edits (recognition_of volume image) (block_of volume.size image volume.pd)
    ++ file_edits_by volume (block_of volume.size image) (frame_in volume image) (files_in volume image)
