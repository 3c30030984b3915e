use Rattle.udf_top.proofs.Cleans.{clean_check, check_clean, clean_repair, repair_clean}
use Rattle.udf_top.proofs.Mending.{some_written, nothing_written}
use Rattle.udf_top.proofs.laws.clean_law.Goals as goal

pub returns-clause-check : goal.returns-clause-check
returns-clause-check c = clean_check

pub returns-clause-checked : goal.returns-clause-checked
returns-clause-checked c = λ given size image. check_clean given image size

pub returns-clause-repair : goal.returns-clause-repair
returns-clause-repair c = clean_repair

pub returns-clause-repaired : goal.returns-clause-repaired
returns-clause-repaired c = repair_clean

pub returns-clause-some : goal.returns-clause-some
returns-clause-some c = some_written

pub returns-clause-none : goal.returns-clause-none
returns-clause-none c = nothing_written
