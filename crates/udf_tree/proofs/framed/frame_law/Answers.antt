use Rattle.udf_tree.proofs.Framing.{placed_there}
use Rattle.udf_tree.proofs.framed.frame_law.Goals as goal

pub returns-clause-placed : goal.returns-clause-placed
returns-clause-placed c = placed_there
