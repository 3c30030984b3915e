use Rattle.std.proofs.Common.{◌≡◌, length}
use Rattle.std.specs.Vec.Iter.{into_iter_items, into_iter_len}
use Rattle.udf_outside.specs.Stops.{bytes_of}
use Rattle.udf_outside.specs.declared.bench.Role.TheVariants.{Image}
use Rattle.udf_file_model.specs.Listing.{volume_of}
use Rattle.udf_tree_model.specs.Frame.{Frame, setting_of, tree_of}
use Rattle.udf_found.specs.Seen.{AreRead}
use Rattle.udf_held.specs.Standing.{AreStanding}
use Rattle.udf_held.proofs.Holdings.{InHolding}
use Rattle.udf_held.proofs.holding.hold_all.Given as goal

abbrev pub invariant-loop-node : goal.invariant-loop-node
invariant-loop-node g l = record {
  next : (goal.iterator-loop-node g).can_next l.node-iterator;
  finite : (goal.iterator-loop-node g).is_finite l.node-iterator;
  many : into_iter_len l.node-iterator ≡ length (into_iter_items l.node-iterator);
  told : g.B.Bench.tells → (f : Frame) → f.root ≡ l.root
      → AreRead f (volume_of l.size (bytes_of Image (g.B.Bench.held l.initial.bench)) (g.P.Parts.place l.parts)) (into_iter_items l.initial.node-iterator)
      → AreStanding (setting_of f (volume_of l.size (bytes_of Image (g.B.Bench.held l.initial.bench)) (g.P.Parts.place l.parts))) (tree_of f (volume_of l.size (bytes_of Image (g.B.Bench.held l.initial.bench)) (g.P.Parts.place l.parts))) (into_iter_items l.initial.node-iterator) l.standings
      → InHolding f (volume_of l.size (bytes_of Image (g.B.Bench.held l.initial.bench)) (g.P.Parts.place l.parts)) (into_iter_items l.initial.node-iterator) (into_iter_items l.node-iterator) l.left l.held.items;
  room : length l.room.items ≡ l.size;
  files : g.B.Bench.files l.bench ≡ g.B.Bench.files l.initial.bench;
  held : g.B.Bench.held l.bench ≡ g.B.Bench.held l.initial.bench;
  calm : g.B.Bench.faults l.bench ≡ g.B.Bench.faults l.initial.bench;
}
