use Rattle.udf_mended_rules.proofs.FileSet.{set_stands}
use Rattle.udf_mended_rules.proofs.file_set_law.Goals as goal

pub returns : goal.returns
returns c = record { stands = set_stands }
