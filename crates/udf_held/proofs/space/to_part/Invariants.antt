use Rattle.std.proofs.Common.{◌≡◌, ◌+◌, ◌<◌, ◌^◌, drop}
use Rattle.udf_file_model.specs.Cut.{to_part}
use Rattle.udf_file_model.specs.Pieces.{size_of}
use Rattle.udf_found.specs.Shape.{pieces_seen}
use Rattle.udf_held.proofs.space.to_part.Given as goal

abbrev pub invariant-loop-piece : goal.invariant-loop-piece
invariant-loop-piece l = size_of (pieces_seen l.pieces) < 2 ^ 63 → l.bytes + to_part l.size (pieces_seen (drop l.piece-index l.pieces)) ≡ to_part l.size (pieces_seen l.pieces)
