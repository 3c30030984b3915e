use Rattle.std.proofs.Common.{◌≡◌, ◌≤◌, ◌-◌, [], length, take}
use Rattle.udf_outside.specs.Stops.{bytes_of}
use Rattle.udf_outside.specs.declared.bench.Role.TheVariants.{Image}
use Rattle.udf_file_model.specs.Listing.{volume_of}
use Rattle.udf_tree_model.specs.Frame.{Frame, places}
use Rattle.udf_found.specs.Begin.{HasStarts}
use Rattle.udf_found.specs.Beyond.{HoldsFileSet, IsBeyond}
use Rattle.udf_found.specs.Seen.{IsAt, spots}
use Rattle.udf_found.specs.Spot.{addresses}
use Rattle.udf_found.specs.Visit.{IsPlaced}
use Rattle.udf_found.proofs.find.search.Given as goal

abbrev pub invariant-loop-next : goal.invariant-loop-next
invariant-loop-next g l = record {
  levels : IsPlaced (places (volume_of l.size (bytes_of Image (g.B.Bench.held l.initial.bench)) (g.P.Parts.place l.parts))) (spots l.arena);
  inside : l.next ≤ length l.arena;
  visits : g.B.Bench.tells → (f : Frame) → HasStarts f l.fn.starts → IsAt f (volume_of l.size (bytes_of Image (g.B.Bench.held l.initial.bench)) (g.P.Parts.place l.parts)) l.next l.arena;
  seen : g.B.Bench.tells → (f : Frame) → HasStarts f l.fn.starts → HoldsFileSet f (volume_of l.size (bytes_of Image (g.B.Bench.held l.initial.bench)) (g.P.Parts.place l.parts)) → IsBeyond f (volume_of l.size (bytes_of Image (g.B.Bench.held l.initial.bench)) (g.P.Parts.place l.parts)) (addresses (take l.next (spots l.arena))) [] (spots l.arena) l.seen;
  room : length l.room.items ≡ l.size;
  files : g.B.Bench.files l.bench ≡ g.B.Bench.files l.initial.bench;
  held : g.B.Bench.held l.bench ≡ g.B.Bench.held l.initial.bench;
  calm : g.B.Bench.faults l.bench ≡ g.B.Bench.faults l.initial.bench;
}

abbrev pub decreases-loop-next : goal.decreases-loop-next
decreases-loop-next g l = length (places (volume_of l.size (bytes_of Image (g.B.Bench.held l.initial.bench)) (g.P.Parts.place l.parts))) - l.next
