use Rattle.std.proofs.Common.{◌≡◌, take}
use Rattle.udf_file_model.specs.Listing.{Volume}
use Rattle.udf_tree_model.specs.Frame.{Frame, setting_of, tree_of}
use Rattle.udf_found.specs.Seen.{AreRead, spots}
use Rattle.udf_found.specs.Spot.{IsFoundList}
use Rattle.udf_held.specs.Standing.{AreStanding}
use Rattle.udf_held.specs.Winners.{TellsWinners}
use Rattle.udf_held.proofs.standing.standings_of.Given as goal

abbrev pub invariant-loop-i : goal.invariant-loop-i
invariant-loop-i g l = record {
  standings : (f : Frame) (v : Volume) → f.after ≡ l.after → v.size ≡ l.size → v.place ≡ g.P.Parts.place l.parts → AreRead f v l.arena
      → IsFoundList (setting_of f v) (tree_of f v) (spots l.arena) → TellsWinners (setting_of f v) (tree_of f v) l.claims
      → AreStanding (setting_of f v) (tree_of f v) (take l.i l.arena) l.standings.items;
}
