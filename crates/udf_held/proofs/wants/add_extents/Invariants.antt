use Rattle.std.proofs.Common.{◌≡◌, ◌++◌, drop}
use Rattle.udf_file_model.specs.Pieces.{extents_of}
use Rattle.udf_found.specs.Shape.{pieces_seen}
use Rattle.udf_found.specs.Wanted.{extent_wants}
use Rattle.udf_held.proofs.wants.add_extents.Given as goal

abbrev pub invariant-loop-piece : goal.invariant-loop-piece
invariant-loop-piece g l =
    l.claims ++ extent_wants (g.P.Parts.blocks l.parts) l.owner l.class (extents_of (pieces_seen (drop l.piece-index l.pieces)))
    ≡ l.initial.claims ++ extent_wants (g.P.Parts.blocks l.parts) l.owner l.class (extents_of (pieces_seen l.pieces))
