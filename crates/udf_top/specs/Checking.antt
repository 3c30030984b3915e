-- What is refused of an image, and what breaks the rules on it, at a block size.
use Rattle.std.specs.Prelude.{ℕ, Option, Some, List, [], Result, Ok, Err}
use Rattle.udf_layer.specs.declared.missing.Missing.{Missing}
use Rattle.udf_volume.specs.Taken.{opening}
use Rattle.udf_volume.specs.declared.volume.Volume.{Volume}
use Rattle.udf_files.specs.Refusal.{files_refusal}
use Rattle.udf_rules.specs.declared.finding.Finding.{Finding}
use Rattle.udf_file_rules.specs.Checked.{checked}

-- the first refusal of an image that is checked: of the volume, else of its integrity sequence, its file set or its entries
abbrev pub refusal_by : Result Volume Missing → List ℕ → Option Missing
refusal_by (Err missing) image = Some missing
refusal_by (Ok volume) image = files_refusal volume image

-- what breaks the rules on an opened volume
abbrev pub found_by : Result Volume Missing → List ℕ → List Finding
found_by (Err missing) image = []
found_by (Ok volume) image = checked volume image

unfoldable pub refusal_at : ℕ → List ℕ → Option Missing
refusal_at size image = refusal_by (opening size image) image

unfoldable pub found_at : ℕ → List ℕ → List Finding
found_at size image = found_by (opening size image) image
