use Rattle.std.proofs.Common.{◌≡◌, ◌++◌, drop}
use Rattle.udf_file_model.specs.Listing.{Volume}
use Rattle.udf_tree_model.specs.Among.{Member}
use Rattle.udf_tree_model.specs.Frame.{Frame}
use Rattle.udf_tree.specs.declared.node.Node.{Node}
use Rattle.udf_tree.specs.Nodes.{AreSurveyed, IsNode, node_addresses, numbered}
use Rattle.udf_tree.proofs.nodes.nodes_of.Given as goal

abbrev pub invariant-loop-i : goal.invariant-loop-i
invariant-loop-i l = record {
  numbered_are : node_addresses l.nodes.items ++ numbered (drop l.i l.entries.kept.items) (drop l.i l.entries.held.items) ≡ numbered l.entries.kept.items l.entries.held.items;
  each : (f : Frame) (v : Volume) → AreSurveyed f v l.root l.file_set l.entries l.links l.ids → (n : Node) → Member n l.nodes.items → IsNode f v (numbered l.entries.kept.items l.entries.held.items) n;
}
