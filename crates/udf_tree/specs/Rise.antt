-- The way from a node up to the root.
use Rattle.std.specs.Prelude.{◌≡◌, ◌≢◌, ◌<◌, ℕ, ◌++◌, List, [], length, map, slice_get, Option, Some, None, Vec}
use Rattle.std.specs.declared.alloc.Global.{Global}
use Rattle.udf_field.specs.declared.address.Addr.{Addr}
use Rattle.udf_file_model.specs.Listing.{Volume}
use Rattle.udf_tree_model.specs.Climb.{climb}
use Rattle.udf_tree_model.specs.Frame.{Frame}
use Rattle.udf_tree.specs.declared.node.Node.{Node}
use Rattle.udf_tree.specs.declared.node.NodeId.{NodeId}
use Rattle.udf_tree.specs.Nodes.{AreNodes, node_addresses}
use Rattle.udf_tree.specs.Path.{IsRise, step_name}

abbrev pub name_at : Option (Vec ℕ Global) → List ℕ
name_at None = []
name_at (Some x) = x.items

-- the number of a node's parent; a number that no node has stays
abbrev pub above_by : NodeId → Option Node → NodeId
above_by id None = id
above_by id (Some n) = n.parent

-- the nodes of all kept entries, and the names of the steps to them
pub record AreSteps (f : Frame) (v : Volume) (ns : List Node) (names : List (List ℕ)) : Type 0 where
  pub nodes_are : AreNodes f v ns
  pub names_are : names ≡ map (λ n. step_name f v n.at) ns

-- so many steps up from an entry, none of them from the root, have come to the node of a number
pub record HasClimbed (f : Frame) (v : Volume) (ns : List Node) (a : Addr) (i k : ℕ) : Type 0 where
  pub at_is : slice_get (node_addresses ns) i ≡ Some (climb f v k a)
  pub below : (j : ℕ) → j < k → climb f v j a ≢ f.root

-- the way up from an entry has come to the node of a number by these names
pub record HasCome (f : Frame) (v : Volume) (ns : List Node) (a : Addr) (i : ℕ) (steps : List (List ℕ)) : Type 0 where
  pub at_is : slice_get (node_addresses ns) i ≡ Some (climb f v (length steps) a)
  pub rest : (names : List (List ℕ)) → IsRise f v (climb f v (length steps) a) names → IsRise f v a (steps ++ names)
