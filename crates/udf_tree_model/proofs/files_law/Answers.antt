use Rattle.udf_tree_model.proofs.Settling.{settled, mended_again}
use Rattle.udf_tree_model.proofs.Paths.{path_stays}
use Rattle.udf_tree_model.proofs.files_law.Goals as goal

pub returns-clause-settled : goal.returns-clause-settled
returns-clause-settled c = settled

pub returns-clause-again : goal.returns-clause-again
returns-clause-again c = mended_again

pub returns-clause-paths : goal.returns-clause-paths
returns-clause-paths c = path_stays
