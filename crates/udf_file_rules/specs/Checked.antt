-- All that a check finds on an opened volume.
use Rattle.std.specs.Prelude.{ℕ, List, ◌++◌, map}
use Rattle.udf_rules.specs.Findings.{finding_of, findings_in}
use Rattle.udf_rules.specs.declared.finding.Finding.{Finding}
use Rattle.udf_rules_model.specs.Findings.{before_volume, of_files, of_space}
use Rattle.udf_volume.specs.declared.volume.Volume.{Volume}

-- of the recognition sequence and of the volume's description
unfoldable pub volume_checked : Volume → List ℕ → List Finding
volume_checked volume image = map finding_of (before_volume volume image) ++ findings_in volume.size image

-- of its files and its space
unfoldable pub files_checked : Volume → List ℕ → List Finding
files_checked volume image = map finding_of (of_files volume image ++ of_space volume image)

-- in the order of rules, then of places and values
abbrev pub checked : Volume → List ℕ → List Finding
checked volume image = volume_checked volume image ++ files_checked volume image
