use Rattle.udf_intact.proofs.Lawful.{intact_path}
use Rattle.udf_intact.proofs.Unbroken.{unbroken_paths}
use Rattle.udf_intact.proofs.lawful_law.Goals as goal

pub returns-clause-paths : goal.returns-clause-paths
returns-clause-paths c = intact_path

pub returns-clause-images : goal.returns-clause-images
returns-clause-images c = unbroken_paths
