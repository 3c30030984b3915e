use Rattle.std.proofs.Common.{◌≡◌, ◌≤◌, [], length, take}
use Rattle.udf_outside.specs.Stops.{bytes_of}
use Rattle.udf_outside.specs.declared.bench.Role.TheVariants.{Image}
use Rattle.udf_file_model.specs.Listing.{volume_of}
use Rattle.udf_tree_model.specs.Frame.{Frame, places}
use Rattle.std.specs.Prelude.{slice_index_or}
use Rattle.udf_found.specs.declared.arena.Found.{Found}
use Rattle.udf_found.specs.Beyond.{HoldsFileSet, IsBeyond}
use Rattle.udf_found.specs.Seen.{IsAt, IsWithin, spots}
use Rattle.udf_found.specs.Spot.{addresses, spot}
use Rattle.udf_found.specs.Visit.{IsPlaced}
use Rattle.udf_found.proofs.find.add_targets.Given as goal

abbrev pub invariant-loop-target : goal.invariant-loop-target
invariant-loop-target g l = record {
  levels : IsPlaced (places (volume_of l.size (bytes_of Image (g.B.Bench.held l.initial.bench)) (g.P.Parts.place l.parts))) (spots l.arena);
  grows : length l.initial.arena ≤ length l.arena;
  visits : g.B.Bench.tells → (f : Frame) → (n : Found) → n ≡ slice_index_or l.initial.arena l.next n → IsAt f (volume_of l.size (bytes_of Image (g.B.Bench.held l.initial.bench)) (g.P.Parts.place l.parts)) l.next l.initial.arena
      → IsWithin f (volume_of l.size (bytes_of Image (g.B.Bench.held l.initial.bench)) (g.P.Parts.place l.parts)) l.next (spot n.at n.level) (take l.target-index l.target-items) l.arena;
  front : take l.next (spots l.arena) ≡ take l.next (spots l.initial.arena);
  seen : g.B.Bench.tells → (f : Frame) → HoldsFileSet f (volume_of l.size (bytes_of Image (g.B.Bench.held l.initial.bench)) (g.P.Parts.place l.parts)) → IsAt f (volume_of l.size (bytes_of Image (g.B.Bench.held l.initial.bench)) (g.P.Parts.place l.parts)) l.next l.initial.arena
      → IsBeyond f (volume_of l.size (bytes_of Image (g.B.Bench.held l.initial.bench)) (g.P.Parts.place l.parts)) (addresses (take l.next (spots l.initial.arena))) [] (spots l.initial.arena) l.fn.beyond
      → IsBeyond f (volume_of l.size (bytes_of Image (g.B.Bench.held l.initial.bench)) (g.P.Parts.place l.parts)) (addresses (take l.next (spots l.initial.arena))) (take l.target-index l.target-items) (spots l.arena) l.seen;
  room : length l.room ≡ l.size;
  files : g.B.Bench.files l.bench ≡ g.B.Bench.files l.initial.bench;
  held : g.B.Bench.held l.bench ≡ g.B.Bench.held l.initial.bench;
  calm : g.B.Bench.faults l.bench ≡ g.B.Bench.faults l.initial.bench;
}
