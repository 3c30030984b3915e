use Rattle.udf_file_mends.proofs.Accepted.{accepted_again, repairable_again}
use Rattle.udf_file_mends.proofs.Everywhere.{all_mended}
use Rattle.udf_file_mends.proofs.tree_law.Goals as goal

pub returns-clause-mended : goal.returns-clause-mended
returns-clause-mended c = all_mended

pub returns-clause-accepted : goal.returns-clause-accepted
returns-clause-accepted c = accepted_again

pub returns-clause-again : goal.returns-clause-again
returns-clause-again c = repairable_again
