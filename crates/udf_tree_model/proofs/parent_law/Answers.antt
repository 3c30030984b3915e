use Rattle.udf_tree_model.proofs.Parents.{keeping_by, keeping_first, keeping_none, keeping_directory}
use Rattle.udf_tree_model.proofs.parent_law.Goals as goal

pub returns-clause-by : goal.returns-clause-by
returns-clause-by c = keeping_by

pub returns-clause-first : goal.returns-clause-first
returns-clause-first c = keeping_first

pub returns-clause-none : goal.returns-clause-none
returns-clause-none c = keeping_none

pub returns-clause-directory : goal.returns-clause-directory
returns-clause-directory c = keeping_directory
