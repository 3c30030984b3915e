use Rattle.std.proofs.Common.{◌≡◌, ◌+◌, ◌<◌, ◌^◌, ℕ, drop}
use Rattle.std.specs.List.{list_all}
use Rattle.udf_file_model.specs.Listing.{addresses}
use Rattle.udf_file_model.specs.Pieces.{size_of}
use Rattle.udf_tree_model.specs.Won.{bytes_before}
use Rattle.udf_tree_model.specs.Frame.{items}
use Rattle.udf_found.specs.Shape.{pieces_seen}
use Rattle.udf_held.specs.Standing.{AreBelow, is_bar, stands}
use Rattle.udf_held.proofs.standing.list_front.Given as goal

abbrev pub invariant-loop-piece : goal.invariant-loop-piece
invariant-loop-piece g l = record {
  counted : (extents class : ℕ) → AreBelow (g.P.Parts.blocks l.parts) (addresses l.size (pieces_seen l.pieces)) → size_of (pieces_seen l.pieces) < 2 ^ 63
      → l.kept + bytes_before (stands l.claims l.owner) (items l.size extents class (is_bar l.bar) (pieces_seen (drop l.piece-index l.pieces)))
      ≡ bytes_before (stands l.claims l.owner) (items l.size extents class (is_bar l.bar) (pieces_seen l.pieces));
  won : (extents class : ℕ) → AreBelow (g.P.Parts.blocks l.parts) (addresses l.size (pieces_seen l.pieces))
      → list_all (stands l.claims l.owner) (items l.size extents class (is_bar l.bar) (pieces_seen (drop l.piece-index l.pieces)))
      ≡ list_all (stands l.claims l.owner) (items l.size extents class (is_bar l.bar) (pieces_seen l.pieces));
}
