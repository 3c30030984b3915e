use Rattle.std.proofs.Common.{◌≡◌, Some}
use Rattle.std.specs.Prelude.{slice_get}
use Rattle.udf_field.specs.declared.address.Addr.{Addr}
use Rattle.udf_file_model.specs.Listing.{Volume}
use Rattle.udf_tree_model.specs.Frame.{Frame}
use Rattle.udf_tree.specs.Nodes.{AreNodes, node_addresses}
use Rattle.udf_tree.specs.Rise.{HasClimbed}
use Rattle.udf_tree.proofs.climb.steps_up.Given as goal

abbrev pub invariant-loop-steps : goal.invariant-loop-steps
invariant-loop-steps l = record {
  climbed : (f : Frame) (v : Volume) → AreNodes f v l.nodes → slice_get (node_addresses l.nodes) l.root.0 ≡ Some f.root → (a : Addr) → slice_get (node_addresses l.nodes) l.fn.id.0 ≡ Some a → HasClimbed f v l.nodes a l.at.0 l.steps;
}
