use Rattle.udf_tree_laws.proofs.Subtrees.{walk_members, walk_once}
use Rattle.udf_tree_laws.proofs.walk_law.Goals as goal

pub returns-clause-members : goal.returns-clause-members
returns-clause-members c = walk_members

pub returns-clause-once : goal.returns-clause-once
returns-clause-once c = walk_once
