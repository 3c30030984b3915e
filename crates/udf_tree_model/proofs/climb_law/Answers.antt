use Rattle.udf_tree_model.proofs.Distances.{distance, distance_few, distance_within}
use Rattle.udf_tree_model.proofs.Nearing.{parent_nearer}
use Rattle.udf_tree_model.proofs.Shortest.{distance_depth}
use Rattle.udf_tree_model.proofs.climb_law.Goals as goal

pub returns-clause-up : goal.returns-clause-up
returns-clause-up c = parent_nearer

pub returns-clause-distance : goal.returns-clause-distance
returns-clause-distance c = distance

pub returns-clause-depth : goal.returns-clause-depth
returns-clause-depth c = distance_within

pub returns-clause-few : goal.returns-clause-few
returns-clause-few c = distance_few

pub returns-clause-shortest : goal.returns-clause-shortest
returns-clause-shortest c = distance_depth
