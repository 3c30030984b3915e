-- What a repair reads of an image before it mends it.
use Rattle.std.specs.Prelude.{◌≡◌, ◌/◌, ℕ, List, Result, Ok, Err}
use Rattle.udf_outside.specs.Files.{Files}
use Rattle.udf_layer.specs.declared.missing.LayerStop.{LayerStop}
use Rattle.udf_layer.specs.declared.missing.LayerStop.TheVariants as stops
use Rattle.udf_volume.specs.Laid.{IsLaidOut}
use Rattle.udf_volume.specs.Opened.{IsBounded}
use Rattle.udf_volume.specs.Over.{IsOver}
use Rattle.udf_volume.specs.declared.volume.Volume.{Volume}
use Rattle.udf_files.specs.Files.{AreFilesOf, AreOverVolume}
use Rattle.udf_files.specs.Refusal.{files_refusal}
use Rattle.udf_file_rules.specs.Checked.{checked}
use Rattle.udf_mended_image.specs.Accepted.{by_refusal, repairing}
use Rattle.udf_repair_plan.specs.Draft.{IsDraftFor, IsDraftOf}
use Rattle.udf_top.specs.Checking.{found_at}
use Rattle.udf_top.specs.declared.udffsck.inspect.Inspected.{Inspected}

-- its files are those of the volume in the image, and its findings are all that breaks the rules there
pub record IsInspectedIn (volume : Volume) (image : List ℕ) (found : Inspected) : Type 0 where
  pub accepted : by_refusal volume image (files_refusal volume image) ≡ Ok volume
  pub files : AreFilesOf volume image found.files
  pub findings : found.findings ≡ checked volume image
  pub draft : IsDraftOf volume image found.draft

-- what an inspection of an opened volume answers, unless a fault or want of memory came
abbrev pub InspectsVolume : Volume → List ℕ → Result Inspected LayerStop → Type 0
InspectsVolume volume image (Ok found) = IsInspectedIn volume image found
InspectsVolume volume image (Err (stops.Missing missing)) = by_refusal volume image (files_refusal volume image) ≡ Err missing
InspectsVolume volume image (Err stops.Fault) = Unit {0}
InspectsVolume volume image (Err stops.Memory) = Unit {0}

-- what holds of all that is inspected of a volume, also over a bench that tells nothing
pub record IsInspectedOver (volume : Volume) (found : Inspected) : Type 0 where
  pub files : AreOverVolume volume found.files
  pub draft : IsDraftFor volume found.draft

-- at a block size: the volume is the one that a repair takes
pub record IsInspected (size : ℕ) (image : List ℕ) (found : Inspected) : Type 0 where
  pub accepted : repairing size image ≡ Ok found.files.volume
  pub files : AreFilesOf found.files.volume image found.files
  pub findings : found.findings ≡ found_at size image
  pub draft : IsDraftOf found.files.volume image found.draft

-- what an inspection of an image answers, unless a fault or want of memory came
abbrev pub Inspects : ℕ → List ℕ → Result Inspected LayerStop → Type 0
Inspects size image (Ok found) = IsInspected size image found
Inspects size image (Err (stops.Missing missing)) = repairing size image ≡ Err missing
Inspects size image (Err stops.Fault) = Unit {0}
Inspects size image (Err stops.Memory) = Unit {0}

-- it was inspected over this image, also over a bench that tells nothing
pub record IsInspectedAt (size : ℕ) (files : Files) (found : Inspected) : Type 0 where
  pub sized : found.files.volume.size ≡ size
  pub bounded : IsBounded size (files.image.size / size) found.files.volume
  pub over : IsOver found.files.volume files
  pub laid : IsLaidOut found.files.volume
  pub volume : AreOverVolume found.files.volume found.files
  pub draft : IsDraftFor found.files.volume found.draft
