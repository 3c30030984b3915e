use Rattle.std.proofs.Common.{◌≡◌, ◌++◌, drop}
use Rattle.udf_file_model.specs.Pieces.{runs_of}
use Rattle.udf_found.specs.Shape.{pieces_seen}
use Rattle.udf_found.specs.Wanted.{run_wants}
use Rattle.udf_held.proofs.wants.add_runs.Given as goal

abbrev pub invariant-loop-piece : goal.invariant-loop-piece
invariant-loop-piece g l =
    l.claims ++ run_wants (g.P.Parts.blocks l.parts) l.size l.owner l.class (runs_of (pieces_seen (drop l.piece-index l.pieces)))
    ≡ l.initial.claims ++ run_wants (g.P.Parts.blocks l.parts) l.size l.owner l.class (runs_of (pieces_seen l.pieces))
