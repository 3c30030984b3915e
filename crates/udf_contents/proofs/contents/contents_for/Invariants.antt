use Rattle.std.proofs.Common.{◌≡◌, List, Option, length, take}
use Rattle.udf_field.specs.declared.address.Addr.{Addr}
use Rattle.udf_outside.specs.Stops.{bytes_of}
use Rattle.udf_outside.specs.declared.bench.Role.TheVariants.{Image}
use Rattle.udf_file_model.specs.Listing.{Volume, volume_of}
use Rattle.udf_tree_model.specs.Frame.{Frame}
use Rattle.udf_kept.specs.declared.keeping.Keeping.{Keeping}
use Rattle.udf_contents.specs.Contents.{AreContentsOf}
use Rattle.udf_contents.specs.Stays.{AreMends, Surveys}
use Rattle.udf_contents.proofs.contents.contents_for.Given as goal

abbrev pub invariant-loop-i : goal.invariant-loop-i
invariant-loop-i g l = record {
  long : length l.contents.items ≡ l.i;
  are : g.B.Bench.tells → (f : Frame) (v : Volume) (root file_set : Addr) (ks : List (Option Keeping)) → v ≡ volume_of l.size (bytes_of Image (g.B.Bench.held l.initial.bench)) (g.P.Parts.place l.parts) → Surveys f v root file_set l.held l.selected ks → AreMends f v l.held ks l.mends → AreContentsOf f v (take l.i l.held) (take l.i ks) l.contents.items;
  room : length l.room.items ≡ l.size;
  files : g.B.Bench.files l.bench ≡ g.B.Bench.files l.initial.bench;
  held : g.B.Bench.held l.bench ≡ g.B.Bench.held l.initial.bench;
  calm : g.B.Bench.faults l.bench ≡ g.B.Bench.faults l.initial.bench;
}
