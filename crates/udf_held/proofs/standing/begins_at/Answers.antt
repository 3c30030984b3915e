use Rattle.std.proofs.Common.{◌+◌, ◌∷◌, ℕ, List, drop, sym, ap, ◌∙◌}
use Rattle.std.proofs.lemmas.List.{drop_more}
use Rattle.udf_file_model.specs.Address.{addr}
use Rattle.udf_file_model.specs.Descriptors.{Descriptor}
use Rattle.udf_file_model.specs.Pieces.{runs_of}
use Rattle.udf_tree_model.specs.Frame.{is_first}
use Rattle.udf_found.specs.declared.pieces.Piece.{Piece}
use Rattle.udf_found.specs.declared.pieces.Piece.TheVariants as piece
use Rattle.udf_found.specs.Shape.{piece_seen, pieces_seen}
use Rattle.udf_found.proofs.Wanting.{drop_none}
use Rattle.udf_held.proofs.standing.begins_at.Goals as goal

pub returns-in-Blocks : goal.returns-in-Blocks
unfolding runs_of
returns-in-Blocks c =
    let xs : List Piece = c.args.pieces.now in
    let i : ℕ = c.loop-piece.piece-index in
    let here = drop_more xs i (piece.Extent (addr 0 0)) c.loop-piece-test.true in
    c.eq.ensures
    ∙ ap (λ (p : Piece). is_first (runs_of (piece_seen p ∷ pieces_seen (drop (i + 1) xs))) c.args.at) (sym c.in-Blocks.is)
    ∙ ap (λ (l : List Piece). is_first (runs_of (pieces_seen l)) c.args.at) (sym here)
    ∙ ap (λ (l : List Descriptor). is_first l c.args.at) c.loop-piece.invariant.left

pub loop-piece-preserved : goal.loop-piece-preserved
unfolding runs_of
loop-piece-preserved c =
    let xs : List Piece = c.args.pieces.now in
    let i : ℕ = c.loop-piece.piece-index in
    let here = drop_more xs i (piece.Extent (addr 0 0)) c.loop-piece-test.true in
    record {
      left =
          ap (λ (p : Piece). runs_of (piece_seen p ∷ pieces_seen (drop (i + 1) xs))) (sym c.in_default.is)
          ∙ ap (λ (l : List Piece). runs_of (pieces_seen l)) (sym here)
          ∙ c.loop-piece.invariant.left;
    }

pub returns : goal.returns
unfolding runs_of
returns c =
    ap (λ (l : List Piece). is_first (runs_of (pieces_seen l)) c.args.at) (sym (drop_none c.args.pieces.now c.loop-piece.piece-index c.loop-piece-test.false))
    ∙ ap (λ (l : List Descriptor). is_first l c.args.at) c.loop-piece.invariant.left
