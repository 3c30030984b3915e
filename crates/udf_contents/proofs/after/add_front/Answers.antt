use Rattle.std.proofs.Common.{ℕ, List, drop, get_or, ap, ◌∙◌}
use Rattle.std.proofs.lemmas.List.{drop_more}
use Rattle.udf_file_model.specs.Address.{addr}
use Rattle.udf_file_model.specs.Cut.{cut_pieces}
use Rattle.udf_found.specs.declared.pieces.Piece.{Piece}
use Rattle.udf_found.specs.declared.pieces.Piece.TheVariants as piece
use Rattle.udf_found.specs.Shape.{pieces_seen}
use Rattle.udf_contents.proofs.Covering.{cut_none, front_added, front_more}
use Rattle.udf_found.proofs.Wanting.{drop_none}
use Rattle.udf_contents.proofs.after.add_front.Goals as goal

pub returns-then-left-eq0 : goal.returns-then-left-eq0
returns-then-left-eq0 g c =
    front_added (g.P.Parts.blocks c.args.parts.now) c.args.size c.loop-piece.left (pieces_seen (drop c.loop-piece.piece-index c.args.pieces.now)) (cut_pieces c.args.bytes (pieces_seen c.args.pieces.now))
    c.args.claims.now c.loop-piece.claims
    (ap (λ (n : ℕ). cut_pieces n (pieces_seen (drop c.loop-piece.piece-index c.args.pieces.now))) c.if-left-eq0.true ∙ cut_none (pieces_seen (drop c.loop-piece.piece-index c.args.pieces.now)))
    c.loop-piece.invariant.added

pub loop-piece-preserved : goal.loop-piece-preserved
loop-piece-preserved g c =
    let xs : List Piece = c.args.pieces.now in
    let i : ℕ = c.loop-piece.piece-index in
    let d : Piece = piece.Extent (addr 0 0) in
    record {
      added = λ x low. front_more (g.P.Parts.blocks c.args.parts.now) c.args.size xs i (get_or xs i d) c.loop-piece.claims c.add_piece.new.claims c.loop-piece.left c.in_ok-left.left x _
          (drop_more xs i d c.loop-piece-test.true) low c.in_ok-left.ensures (c.loop-piece.invariant.added x low);
    }

pub returns : goal.returns
unfolding cut_pieces
returns g c =
    front_added (g.P.Parts.blocks c.args.parts.now) c.args.size c.loop-piece.left (pieces_seen (drop c.loop-piece.piece-index c.args.pieces.now)) (cut_pieces c.args.bytes (pieces_seen c.args.pieces.now))
    c.args.claims.now c.loop-piece.claims
    (ap (λ (l : List Piece). cut_pieces c.loop-piece.left (pieces_seen l)) (drop_none c.args.pieces.now c.loop-piece.piece-index c.loop-piece-test.false))
    c.loop-piece.invariant.added
