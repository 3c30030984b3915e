use Rattle.std.proofs.Common.{◌++◌, ◌∷◌, [], List, sym, ap, ◌∙◌}
use Rattle.udf_claims.specs.declared.run.Run.{Run}
use Rattle.udf_file_model.specs.Pieces.{runs_of}
use Rattle.udf_entry.specs.RunView.{run_seen}
use Rattle.udf_found.specs.declared.pieces.Piece.{Piece}
use Rattle.udf_found.specs.Shape.{piece_seen}
use Rattle.udf_found.specs.Wanted.{run_want, run_wants}
use Rattle.udf_found.proofs.Wanting.{also_ok, nothing_more}
use Rattle.udf_held.proofs.wants.add_blocks.Goals as goal

pub returns-in-Extent : goal.returns-in-Extent
unfolding runs_of run_wants
returns-in-Extent g c =
    nothing_more c.args.claims.now ∙ ap (λ (p : Piece). c.args.claims.now ++ run_wants (g.P.Parts.blocks c.args.parts.now) c.args.size c.args.owner c.args.class (runs_of (piece_seen p ∷ []))) (sym c.in-Extent.is)

pub returns-in-Blocks : goal.returns-in-Blocks
unfolding runs_of run_wants
returns-in-Blocks g c =
    also_ok c.add_run.result _ _ (λ k.
    k
    ∙ ap (λ (l : List Run). c.args.claims.now ++ l) (nothing_more (run_want (g.P.Parts.blocks c.args.parts.now) c.args.size c.args.owner c.args.class (run_seen c.in-Blocks.run')))
    ∙ ap (λ (p : Piece). c.args.claims.now ++ run_wants (g.P.Parts.blocks c.args.parts.now) c.args.size c.args.owner c.args.class (runs_of (piece_seen p ∷ []))) (sym c.in-Blocks.is))
    c.add_run.ensures
