use Rattle.std.proofs.Common.{sym, refl, subst}
use Rattle.udf_found.specs.declared.pieces.Piece.{Piece}
use Rattle.udf_found.specs.Shape.{piece_seen}
use Rattle.udf_held.specs.Standing.{IsFront, is_bar, piece_items, stands}
use Rattle.udf_held.proofs.Standings.{extent_front}
use Rattle.udf_held.proofs.standing.piece_front.Goals as goal

pub returns-in-Extent : goal.returns-in-Extent
returns-in-Extent g c extents class w =
    subst (λ (p : Piece). IsFront (stands c.args.claims.now c.args.owner) (piece_items c.args.size extents class (is_bar c.args.bar) (piece_seen p)) (record { bytes = 0; whole = c.wins.result })) (sym c.in-Extent.is)
    (extent_front extents c.args.claims.now c.args.owner c.in-Extent.at (record { bytes = 0; whole = c.wins.result }) refl c.wins.ensures)
