-- Images that a repair accepts, images that break no rule, and what a repair makes of an image.
use Rattle.std.specs.Prelude.{ℕ, Bool, false, not, is_ok, ◌&&◌, ◌||◌, if◌then◌else◌, List, Option, Some, None, Result, Ok, Err}
use Rattle.udf_volume_model.specs.Edits.{put_blocks}
use Rattle.udf_volume_model.specs.FileSet.{first_block, is_guarded_in}
use Rattle.udf_volume_model.specs.Opened.{volume_mended, is_volume_unbroken}
use Rattle.udf_layer.specs.declared.missing.Missing.{Missing}
use Rattle.udf_layer.specs.declared.missing.Missing.TheVariants.{WriteProtected}
use Rattle.udf_volume.specs.Taken.{opening}
use Rattle.udf_volume.specs.Writable.{is_protected}
use Rattle.udf_volume.specs.declared.volume.Volume.{Volume}
use Rattle.udf_rules_model.specs.Files.{site_in}
use Rattle.udf_rules_model.specs.Findings.{further_rules_hold}
use Rattle.udf_files.specs.Refusal.{files_refusal}
use Rattle.udf_mended_image.specs.Further.{further_edits}

-- the volume is not to be written: by its descriptors, or by those of its file set (UDF 2.1.5.3, ECMA-167 4/14.1.16)
abbrev pub is_kept_from_writing : Volume → List ℕ → Bool
is_kept_from_writing volume image = is_protected volume || is_guarded_in (first_block (site_in volume image))

abbrev pub by_protection : Volume → List ℕ → Result Volume Missing
by_protection volume image = if is_kept_from_writing volume image then Err WriteProtected else Ok volume

abbrev pub by_refusal : Volume → List ℕ → Option Missing → Result Volume Missing
by_refusal volume image (Some missing) = Err missing
by_refusal volume image None = by_protection volume image

abbrev pub by_opening : List ℕ → Result Volume Missing → Result Volume Missing
by_opening image (Err missing) = Err missing
by_opening image (Ok volume) = by_refusal volume image (files_refusal volume image)

-- the first refusal of a repair that applies, or the volume: what its description lacks, then what its files lack, and last that
-- it may not be written
unfoldable pub repairing : ℕ → List ℕ → Result Volume Missing
repairing size image = by_opening image (opening size image)

-- no refusal applies
unfoldable pub is_accepted : ℕ → List ℕ → Bool
is_accepted size image = is_ok (repairing size image)

abbrev pub unbroken_in : ℕ → List ℕ → Result Volume Missing → Bool
unbroken_in size image (Err missing) = false
unbroken_in size image (Ok volume) = is_volume_unbroken size image && further_rules_hold volume image

-- a volume is opened, and every rule holds on it and on its files
unfoldable pub is_unbroken : ℕ → List ℕ → Bool
is_unbroken size image = unbroken_in size image (opening size image)

abbrev pub mended_in : ℕ → List ℕ → Result Volume Missing → List ℕ
mended_in size image (Err missing) = image
mended_in size image (Ok volume) = put_blocks size (further_edits volume image) (volume_mended size image)

-- the image with each structure of its volume and of its files that breaks a rule mended
unfoldable pub mended : ℕ → List ℕ → List ℕ
mended size image = mended_in size image (repairing size image)

-- what a repair makes of an image: the mended one where it is accepted and breaks a rule, else the image as it is
unfoldable pub mend : ℕ → List ℕ → List ℕ
mend size image = if is_accepted size image && not (is_unbroken size image) then mended size image else image
