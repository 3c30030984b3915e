use Rattle.std.proofs.Common.{◌≡◌, length, Some}
use Rattle.std.specs.Prelude.{slice_get}
use Rattle.udf_field.specs.declared.address.Addr.{Addr}
use Rattle.udf_file_model.specs.Listing.{Volume}
use Rattle.udf_tree_model.specs.Climb.{IsDistance}
use Rattle.udf_tree_model.specs.Frame.{Frame}
use Rattle.udf_tree.specs.Nodes.{node_addresses}
use Rattle.udf_tree.specs.Path.{texts_of}
use Rattle.udf_tree.specs.Rise.{AreSteps, HasCome}
use Rattle.udf_tree.proofs.path.names_up.Given as goal

abbrev pub invariant-loop : goal.invariant-loop
invariant-loop l = record {
  many : length l.upward.items ≡ l.counter;
  come : (f : Frame) (v : Volume) → AreSteps f v l.nodes (texts_of l.names) → (a : Addr) → slice_get (node_addresses l.nodes) l.fn.id.0 ≡ Some a → IsDistance f v a l.steps → HasCome f v l.nodes a l.at.0 (texts_of l.upward.items);
}
