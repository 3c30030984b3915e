use Rattle.std.proofs.Common.{◌≡◌, ◌++◌, drop}
use Rattle.udf_file_model.specs.Listing.{Volume}
use Rattle.udf_tree_model.specs.Frame.{Frame}
use Rattle.udf_found.specs.Seen.{AreRead}
use Rattle.udf_found.specs.Wanted.{wants_over}
use Rattle.udf_held.proofs.claimed.add_all.Given as goal

abbrev pub invariant-loop-i : goal.invariant-loop-i
invariant-loop-i g l = record {
  added : (f : Frame) (v : Volume) → f.root ≡ l.root → v.size ≡ l.size → AreRead f v l.arena
      → l.claims ++ wants_over (g.P.Parts.blocks l.parts) f v (drop l.i l.arena) ≡ l.initial.claims ++ wants_over (g.P.Parts.blocks l.parts) f v l.arena;
}
