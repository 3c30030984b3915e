use Rattle.std.proofs.Common.{◌≡◌, ◌<◌, ◌||◌, drop}
use Rattle.udf_field.specs.declared.address.Addr.{Addr}
use Rattle.udf_file_model.specs.Cut.{cut_pieces}
use Rattle.udf_claims.specs.Winner.{claimed}
use Rattle.udf_contents.specs.After.{has_address}
use Rattle.udf_found.specs.Shape.{pieces_seen}
use Rattle.udf_contents.proofs.after.add_front.Given as goal

abbrev pub invariant-loop-piece : goal.invariant-loop-piece
invariant-loop-piece g l = record {
  added : (x : Addr) → x.block < g.P.Parts.blocks l.parts x.part
      → (claimed l.claims x || has_address l.size (cut_pieces l.left (pieces_seen (drop l.piece-index l.pieces))) x)
      ≡ (claimed l.initial.claims x || has_address l.size (cut_pieces l.bytes (pieces_seen l.pieces)) x);
}
