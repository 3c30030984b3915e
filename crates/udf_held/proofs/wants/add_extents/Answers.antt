use Rattle.std.proofs.Common.{◌+◌, ◌∷◌, [], ℕ, List, drop, get_or, refl}
use Rattle.std.proofs.lemmas.List.{drop_more}
use Rattle.udf_file_model.specs.Address.{addr}
use Rattle.udf_file_model.specs.Pieces.{extents_of}
use Rattle.udf_found.specs.declared.pieces.Piece.{Piece}
use Rattle.udf_found.specs.declared.pieces.Piece.TheVariants as piece
use Rattle.udf_found.specs.Shape.{piece_seen, pieces_seen}
use Rattle.udf_found.specs.Wanted.{extent_wants}
use Rattle.udf_found.proofs.Wanting.{extents_more, no_more, one_more}
use Rattle.udf_held.proofs.wants.add_extents.Goals as goal

pub loop-piece-preserved : goal.loop-piece-preserved
loop-piece-preserved g c =
    let blocks : ℕ → ℕ = g.P.Parts.blocks c.args.parts.now in
    let xs : List Piece = c.args.pieces.now in
    let i : ℕ = c.loop-piece.piece-index in
    let x : Piece = get_or xs i (piece.Extent (addr 0 0)) in
    one_more (λ ps. extent_wants blocks c.args.owner c.args.class (extents_of (pieces_seen ps))) (extent_wants blocks c.args.owner c.args.class (extents_of (piece_seen x ∷ []))) xs i x
    c.loop-piece.claims c.add_extent.new.claims _ (drop_more xs i (piece.Extent (addr 0 0)) c.loop-piece-test.true) (extents_more blocks c.args.owner c.args.class x (drop (i + 1) xs))
    c.in_ok-add_extent.ensures c.loop-piece.invariant

pub returns : goal.returns
unfolding extents_of
returns g c =
    let blocks : ℕ → ℕ = g.P.Parts.blocks c.args.parts.now in
    no_more (λ ps. extent_wants blocks c.args.owner c.args.class (extents_of (pieces_seen ps))) c.args.pieces.now c.loop-piece.piece-index c.loop-piece.claims _ refl c.loop-piece-test.false c.loop-piece.invariant
