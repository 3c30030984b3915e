use Rattle.udf_mended_rules.proofs.Accepted as accepted
use Rattle.udf_mended_rules.proofs.Alike as alike
use Rattle.udf_mended_rules.proofs.Free.{free_same}
use Rattle.udf_mended_rules.proofs.mended_law.Goals as goal

pub returns-clause-alike : goal.returns-clause-alike
returns-clause-alike c = alike.alike

pub returns-clause-stated : goal.returns-clause-stated
returns-clause-stated c = alike.states

pub returns-clause-free : goal.returns-clause-free
returns-clause-free c = free_same

pub returns-clause-accepted : goal.returns-clause-accepted
returns-clause-accepted c = accepted.accepted

pub returns-clause-again : goal.returns-clause-again
returns-clause-again c = accepted.repairable
