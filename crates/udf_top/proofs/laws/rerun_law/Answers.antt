use Rattle.udf_top.proofs.Rerun.{not_open, settled_done, target_done}
use Rattle.udf_top.proofs.laws.rerun_law.Goals as goal

pub returns-clause-closed : goal.returns-clause-closed
returns-clause-closed c = λ size start end done log. not_open _ _ done.side log

pub returns-clause-settled : goal.returns-clause-settled
returns-clause-settled c = settled_done

pub returns-clause-target : goal.returns-clause-target
returns-clause-target c = target_done
