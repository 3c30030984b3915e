use Rattle.udf_intact.proofs.Images.{mend_keeps, mend_keeps_as}
use Rattle.udf_intact.proofs.Keeping.{path_kept}
use Rattle.udf_intact.proofs.intact_law.Goals as goal

pub returns-clause-paths : goal.returns-clause-paths
returns-clause-paths c = path_kept

pub returns-clause-images : goal.returns-clause-images
returns-clause-images c = mend_keeps

pub returns-clause-sized : goal.returns-clause-sized
returns-clause-sized c = mend_keeps_as
