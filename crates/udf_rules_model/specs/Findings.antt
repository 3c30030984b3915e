-- All rules of a volume and its files together, and all that is found where some are broken.
use Rattle.std.specs.Prelude.{ℕ, Bool, ◌&&◌, List, ◌++◌}
use Rattle.udf_model.specs.Image.{block_of}
use Rattle.udf_file_model.specs.Listing as listing
use Rattle.udf_volume_model.specs.Rules.{Finding}
use Rattle.udf_tree_model.specs.Frame.{Frame}
use Rattle.udf_volume.specs.Areas.{layout_stated}
use Rattle.udf_volume.specs.declared.volume.Volume.{Volume}
use Rattle.udf_rules_model.specs.Bitmap.{bitmap_findings, bitmap_rule}
use Rattle.udf_rules_model.specs.FileRules.{allocation_findings, allocation_rule, content_findings, content_rule, count_findings, count_rule, identifier_findings, identifier_rule, name_findings, names_rule, target_findings, targets_rule}
use Rattle.udf_rules_model.specs.Files.{files_in, frame_in}
use Rattle.udf_rules_model.specs.Integrity.{integrity_findings, integrity_holds}
use Rattle.udf_rules_model.specs.Recognition.{Recognition, recognition_findings, recognition_holds}

unfoldable pub recognition_of : Volume → List ℕ → Recognition
recognition_of volume image = record {
  size = volume.size;
  blocks = volume.blocks;
  disk = block_of volume.size image;
  layout = layout_stated volume (block_of volume.size image);
}

-- of the recognition sequence
unfoldable pub before_volume : Volume → List ℕ → List Finding
before_volume volume image = recognition_findings (recognition_of volume image) (block_of volume.size image volume.pd)

abbrev pub files_hold_by : Frame → listing.Volume → Bool
files_hold_by f v =
    targets_rule f v && (allocation_rule f v && (content_rule f v && (names_rule f v && (count_rule f v && identifier_rule f v))))

abbrev pub space_holds_by : Volume → Frame → listing.Volume → Bool
space_holds_by volume f v =
    bitmap_rule f v volume.length volume.bitmap && integrity_holds f v volume.length volume.bitmap volume.integrity

-- the rules on the recognition sequence, on the kept entries, on the space bitmap and on integrity
unfoldable pub further_rules_hold : Volume → List ℕ → Bool
further_rules_hold volume image =
    recognition_holds (recognition_of volume image)
    && (files_hold_by (frame_in volume image) (files_in volume image) && space_holds_by volume (frame_in volume image) (files_in volume image))

abbrev pub of_files_by : Frame → listing.Volume → List Finding
of_files_by f v =
    target_findings f v ++ (allocation_findings f v ++ (content_findings f v ++ (name_findings f v ++ (count_findings f v ++ identifier_findings f v))))

-- of kept entries, in the order of rules, then of addresses and values
unfoldable pub of_files : Volume → List ℕ → List Finding
of_files volume image = of_files_by (frame_in volume image) (files_in volume image)

abbrev pub of_space_by : Volume → Frame → listing.Volume → List Finding
of_space_by volume f v =
    bitmap_findings f v volume.length volume.bitmap ++ integrity_findings f v volume.length volume.bitmap volume.integrity

-- of the space bitmap and of the integrity sequence
unfoldable pub of_space : Volume → List ℕ → List Finding
of_space volume image = of_space_by volume (frame_in volume image) (files_in volume image)
