use Rattle.udf_tree_model.proofs.Same.{same_survey}
use Rattle.udf_tree_model.proofs.Reading.{reads_same}
use Rattle.udf_tree_model.proofs.reads_law.Goals as goal

pub returns-clause-trees : goal.returns-clause-trees
returns-clause-trees c = same_survey

pub returns-clause-disks : goal.returns-clause-disks
returns-clause-disks c = λ f v disk h. reads_same v disk f h
