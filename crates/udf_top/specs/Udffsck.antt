-- What `udffsck` answers and prints.
use Rattle.std.specs.Prelude.{◌≡◌, ℕ, if◌then◌else◌, Option, Some, None, List, [], ◌∷◌, ◌++◌, take, Result, Ok, Err}
use Rattle.std.specs.Str.{bytes_eq}
use Rattle.udf_outside.specs.Stops.{Pair}
use Rattle.udf_volume_model.specs.Size.{size_of}
use Rattle.udf_layer.specs.declared.missing.Missing.{Missing}
use Rattle.udf_layer.specs.declared.missing.Missing.TheVariants as missing
use Rattle.udf_layer.specs.declared.missing.Missing.TheVariants.{Anchor}
use Rattle.udf_layer.specs.declared.missing.LayerStop.{LayerStop}
use Rattle.udf_layer.specs.declared.missing.LayerStop.TheVariants as stops
use Rattle.udf_volume.specs.declared.volume.Volume.{Volume}
use Rattle.udf_rules.specs.declared.finding.Finding.{Finding}
use Rattle.udf_top.specs.declared.outcome.Outcome.{Outcome}
use Rattle.udf_top.specs.declared.outcome.Outcome.TheVariants as outcome
use Rattle.udf_words.specs.declared.cause.Cause.{Cause}
use Rattle.udf_words.specs.Words.{Command, command_in}
use Rattle.udf_file_rules.specs.Checked.{checked}
use Rattle.udf_files.specs.Refusal.{files_refusal}
use Rattle.udf_top.specs.Checking.{found_at, refusal_at}
use Rattle.udf_top.specs.Texts.{text_of}
use Rattle.udf_top.specs.Repairing.{repair_of, repair_said}

-- nothing broken, or these findings
abbrev pub by_findings : List Finding → Outcome
by_findings [] = outcome.Clean
by_findings (finding ∷ rest) = outcome.Broken (finding ∷ rest)

abbrev pub by_refusal : Option Missing → List Finding → Outcome
by_refusal (Some missing) findings = outcome.Refused missing
by_refusal None findings = by_findings findings

-- the outcome of a check of an image, where nothing fails: the first refusal that applies, or what breaks the rules
unfoldable pub check_at : ℕ → List ℕ → Outcome
check_at size image = by_refusal (refusal_at size image) (found_at size image)

-- the same at the block size that is given, or else found; without one the image is refused
abbrev pub check_sized : Option ℕ → List ℕ → Outcome
check_sized None image = outcome.Refused Anchor
check_sized (Some size) image = check_at size image

abbrev pub check_of : Option ℕ → List ℕ → Outcome
check_of given image = check_sized (size_of given image) image

-- a check, or a repair with this side file
abbrev pub outcome_beside : Option (List ℕ) → Option ℕ → List ℕ → Pair → Outcome
outcome_beside None given medium pair = check_of given pair.0
outcome_beside (Some side) given medium pair = if bytes_eq side medium then outcome.SameFile else repair_of given pair

abbrev pub outcome_by : Result Command Cause → Pair → Outcome
outcome_by (Err cause) pair = outcome.Usage cause
outcome_by (Ok command) pair = outcome_beside command.side command.size command.medium pair

-- the outcome of a run with these words over these files, where nothing fails
unfoldable pub outcome_of : List (List ℕ) → Pair → Outcome
outcome_of words pair = outcome_by (command_in words) pair

-- what a run without repair prints at an outcome
abbrev pub text_by : Result Command Cause → Outcome → List ℕ
text_by (Err cause) = text_of []
text_by (Ok command) = text_of command.medium

abbrev pub said_beside : Option (List ℕ) → Option ℕ → List ℕ → Pair → List ℕ
said_beside None given medium pair = text_of medium (check_of given pair.0)
said_beside (Some side) given medium pair = if bytes_eq side medium then text_of medium outcome.SameFile else repair_said given medium side pair

abbrev pub said_by : Result Command Cause → Pair → List ℕ
said_by (Err cause) pair = text_of [] (outcome.Usage cause)
said_by (Ok command) pair = said_beside command.side command.size command.medium pair

-- what a run with these words over these files prints, where nothing fails
unfoldable pub output_of : List (List ℕ) → Pair → List ℕ
output_of words pair = said_by (command_in words) pair

-- a sink holds what it held and a front of a text
abbrev pub HoldsFront : Option (List ℕ) → List ℕ → List ℕ → Type 0
HoldsFront told before text = (k : ℕ) × (told ≡ Some (before ++ take k text))

-- what an examination of an image answers, unless a fault or want of memory came
abbrev pub Examines : Option ℕ → List ℕ → Result (List Finding) LayerStop → Type 0
Examines given image (Ok findings) = by_findings findings ≡ check_of given image
Examines given image (Err (stops.Missing missing)) = outcome.Refused missing ≡ check_of given image
Examines given image (Err stops.Fault) = Unit {0}
Examines given image (Err stops.Memory) = Unit {0}

-- of a volume that was opened
abbrev pub ExaminesVolume : Volume → List ℕ → Result (List Finding) LayerStop → Type 0
ExaminesVolume volume image (Ok findings) = (files_refusal volume image ≡ None) × (findings ≡ checked volume image)
ExaminesVolume volume image (Err (stops.Missing missing)) = files_refusal volume image ≡ Some missing
ExaminesVolume volume image (Err stops.Fault) = Unit {0}
ExaminesVolume volume image (Err stops.Memory) = Unit {0}

-- at a block size
abbrev pub ExaminesAt : ℕ → List ℕ → Result (List Finding) LayerStop → Type 0
ExaminesAt size image (Ok findings) = (refusal_at size image ≡ None) × (findings ≡ found_at size image)
ExaminesAt size image (Err (stops.Missing missing)) = refusal_at size image ≡ Some missing
ExaminesAt size image (Err stops.Fault) = Unit {0}
ExaminesAt size image (Err stops.Memory) = Unit {0}

-- the block size that is given, or else found, unless a fault or want of memory came
abbrev pub Sizes : Option ℕ → List ℕ → Result ℕ LayerStop → Type 0
Sizes given image (Ok size) = size_of given image ≡ Some size
Sizes given image (Err (stops.Missing missing)) = (size_of given image ≡ None) × (missing ≡ Anchor)
Sizes given image (Err stops.Fault) = Unit {0}
Sizes given image (Err stops.Memory) = Unit {0}

-- a check refuses what the volume, its file set or its entries lack; write protection refuses a repair alone
abbrev pub IsOfCheck : Missing → Type 0
IsOfCheck missing.TooLarge = Unit {0}
IsOfCheck missing.Anchor = Unit {0}
IsOfCheck missing.Sequence = Unit {0}
IsOfCheck (missing.Profile item) = Unit {0}
IsOfCheck missing.Layout = Unit {0}
IsOfCheck missing.SparingTable = Unit {0}
IsOfCheck missing.FileSet = Unit {0}
IsOfCheck missing.RootDirectory = Unit {0}
IsOfCheck missing.WriteProtected = ⊥

abbrev pub RefusesCheck : LayerStop → Type 0
RefusesCheck (stops.Missing missing) = IsOfCheck missing
RefusesCheck stops.Fault = Unit {0}
RefusesCheck stops.Memory = Unit {0}
