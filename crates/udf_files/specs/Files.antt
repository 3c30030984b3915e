-- The files of an opened volume.
use Rattle.std.specs.Prelude.{◌≡◌, ◌⊎◌, ◌<◌, ℕ, true, List, [], Option, Some, None, Result, Ok, Err}
use Rattle.udf_field.specs.declared.address.Addr.{Addr}
use Rattle.udf_file_model.specs.Address.{Places, lone_places}
use Rattle.udf_layer.specs.declared.missing.LayerStop.{LayerStop}
use Rattle.udf_layer.specs.declared.missing.LayerStop.TheVariants as stops
use Rattle.udf_partitions.specs.Base.{base_place}
use Rattle.udf_tree_model.specs.Frame.{setting_of, tree_of}
use Rattle.udf_tree_model.specs.Laws.{HasSoundStarts}
use Rattle.udf_tree_model.specs.Stated.{IsFileSetPlaced}
use Rattle.udf_volume_model.specs.Layout.{are_packets_of}
use Rattle.udf_volume_model.specs.SparingTable.{Table}
use Rattle.udf_volume.specs.Areas.{areas_stated, partition_stated}
use Rattle.udf_rules_model.specs.Places.{place_by}
use Rattle.udf_found.specs.Beyond.{HoldsFileSet}
use Rattle.udf_tree.specs.Survey.{IsSurvey}
use Rattle.udf_volume.specs.FileSet.{IsFileSet}
use Rattle.udf_volume.specs.declared.volume.Volume.{Volume}
use Rattle.udf_files.specs.declared.files.Files.{Files}
use Rattle.udf_files.specs.Refusal.{files_refusal}
use Rattle.udf_rules_model.specs.Files.{files_in, frame_in, places_of, site_in}

-- where its partitions place addresses
abbrev pub places_in : Files → Places
places_in files = lone_places 0 (base_place files.parts.layer)

-- the partitions, the file set and the survey are those of an image's volume, whose starts are sound directories
pub record AreFilesOf (volume : Volume) (image : List ℕ) (files : Files) : Type 0 where
  pub places_are : places_in files ≡ places_of volume image
  pub set_is : IsFileSet (site_in volume image) files.set
  pub holds_set : HoldsFileSet (frame_in volume image) (files_in volume image)
  pub set_placed : IsFileSetPlaced (frame_in volume image) (files_in volume image)
  pub starts : HasSoundStarts (setting_of (frame_in volume image) (files_in volume image)) (tree_of (frame_in volume image) (files_in volume image))
  pub survey_is : IsSurvey (frame_in volume image) (files_in volume image) files.survey

-- the answer is the first refusal that applies, or the files, unless a fault or want of memory came
abbrev pub FindsFiles : Volume → List ℕ → Result Files LayerStop → Type 0
FindsFiles volume image (Ok files) = (files_refusal volume image ≡ None) × AreFilesOf volume image files
FindsFiles volume image (Err (stops.Missing reason)) = files_refusal volume image ≡ Some reason
FindsFiles volume image (Err stops.Fault) = Unit {0}
FindsFiles volume image (Err stops.Memory) = Unit {0}

-- what holds of all files of a volume, also over a bench that tells nothing
pub record AreOverVolume (volume : Volume) (files : Files) : Type 0 where
  pub volume_is : files.volume ≡ volume
  pub inside : (a : Addr) (s : ℕ) → places_in files a ≡ Some s → s < volume.blocks
  -- by some sparing table, or none, whose packets have blocks and are lawful in the volume
  pub table : Table
  pub usable : (table.pairs ≡ []) ⊎ (0 < table.packet)
  pub placed : (a : Addr) → places_in files a ≡ lone_places 0 (place_by (partition_stated volume) table) a
  pub packets : are_packets_of volume.blocks volume.anchor (record { areas = areas_stated volume; table = table }) ≡ true
