use Rattle.std.proofs.Common.{◌+◌, ◌∷◌, [], ℕ, List, drop, get_or, refl}
use Rattle.std.proofs.lemmas.List.{drop_more}
use Rattle.udf_file_model.specs.Address.{addr}
use Rattle.udf_file_model.specs.Pieces.{runs_of}
use Rattle.udf_found.specs.declared.pieces.Piece.{Piece}
use Rattle.udf_found.specs.declared.pieces.Piece.TheVariants as piece
use Rattle.udf_found.specs.Shape.{piece_seen, pieces_seen}
use Rattle.udf_found.specs.Wanted.{run_wants}
use Rattle.udf_found.proofs.Wanting.{runs_more, no_more, one_more}
use Rattle.udf_held.proofs.wants.add_runs.Goals as goal

pub loop-piece-preserved : goal.loop-piece-preserved
loop-piece-preserved g c =
    let blocks : ℕ → ℕ = g.P.Parts.blocks c.args.parts.now in
    let xs : List Piece = c.args.pieces.now in
    let i : ℕ = c.loop-piece.piece-index in
    let x : Piece = get_or xs i (piece.Extent (addr 0 0)) in
    one_more (λ ps. run_wants blocks c.args.size c.args.owner c.args.class (runs_of (pieces_seen ps))) (run_wants blocks c.args.size c.args.owner c.args.class (runs_of (piece_seen x ∷ []))) xs i x
    c.loop-piece.claims c.add_blocks.new.claims _ (drop_more xs i (piece.Extent (addr 0 0)) c.loop-piece-test.true) (runs_more blocks c.args.size c.args.owner c.args.class x (drop (i + 1) xs))
    c.in_ok-add_blocks.ensures c.loop-piece.invariant

pub returns : goal.returns
unfolding runs_of run_wants
returns g c =
    let blocks : ℕ → ℕ = g.P.Parts.blocks c.args.parts.now in
    no_more (λ ps. run_wants blocks c.args.size c.args.owner c.args.class (runs_of (pieces_seen ps))) c.args.pieces.now c.loop-piece.piece-index c.loop-piece.claims _ refl c.loop-piece-test.false c.loop-piece.invariant
