use Rattle.std.proofs.Common.{◌≡◌, drop}
use Rattle.udf_file_model.specs.Pieces.{runs_of}
use Rattle.udf_found.specs.Shape.{pieces_seen}
use Rattle.udf_held.proofs.standing.begins_at.Given as goal

abbrev pub invariant-loop-piece : goal.invariant-loop-piece
invariant-loop-piece l = record {
  left : runs_of (pieces_seen (drop l.piece-index l.pieces)) ≡ runs_of (pieces_seen l.pieces);
}
