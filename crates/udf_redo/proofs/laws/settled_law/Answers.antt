use Rattle.udf_redo.proofs.States.{settled_open, settled_other}
use Rattle.udf_redo.proofs.laws.settled_law.Goals as goal

pub returns-clause-opened : goal.returns-clause-opened
returns-clause-opened c = λ side image log. settled_open image side log

pub returns-clause-others : goal.returns-clause-others
returns-clause-others c = λ side image none. settled_other image side none
