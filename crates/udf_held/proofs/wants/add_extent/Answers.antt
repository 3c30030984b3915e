use Rattle.std.proofs.Common.{◌++◌, ◌∷◌, [], sym, ap, ◌∙◌}
use Rattle.udf_file_model.specs.Pieces.{extents_of}
use Rattle.udf_found.specs.declared.pieces.Piece.{Piece}
use Rattle.udf_found.specs.Shape.{piece_seen}
use Rattle.udf_found.specs.Wanted.{extent_wants}
use Rattle.udf_found.proofs.Wanting.{also_ok, nothing_more}
use Rattle.udf_held.proofs.wants.add_extent.Goals as goal

pub returns-in-Extent : goal.returns-in-Extent
unfolding extents_of
returns-in-Extent g c =
    also_ok c.add_want.result _ _ (λ k. k ∙ ap (λ (p : Piece). c.args.claims.now ++ extent_wants (g.P.Parts.blocks c.args.parts.now) c.args.owner c.args.class (extents_of (piece_seen p ∷ []))) (sym c.in-Extent.is))
    c.add_want.ensures

pub returns-in-Blocks : goal.returns-in-Blocks
unfolding extents_of
returns-in-Blocks g c =
    nothing_more c.args.claims.now ∙ ap (λ (p : Piece). c.args.claims.now ++ extent_wants (g.P.Parts.blocks c.args.parts.now) c.args.owner c.args.class (extents_of (piece_seen p ∷ []))) (sym c.in-Blocks.is)
