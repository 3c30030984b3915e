use Rattle.udf_tree_laws.proofs.Children.{child_members, child_once}
use Rattle.udf_tree_laws.proofs.Once.{children_once}
use Rattle.udf_tree_laws.proofs.children_law.Goals as goal

pub returns-clause-members : goal.returns-clause-members
returns-clause-members c = child_members

pub returns-clause-once : goal.returns-clause-once
returns-clause-once c = children_once

pub returns-clause-one : goal.returns-clause-one
returns-clause-one c = child_once
