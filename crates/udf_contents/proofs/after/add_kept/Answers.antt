use Rattle.std.proofs.Common.{Bool, not, sym, ap, ◌∙◌, subst}
use Rattle.udf_found.specs.Shape.{IsShaped}
use Rattle.udf_contents.proofs.Leaving.{holder_added, kept_added, mending_is}
use Rattle.udf_found.proofs.Wanting.{also_ok}
use Rattle.udf_contents.proofs.after.add_kept.Goals as goal

pub returns-in-Some : goal.returns-in-Some
returns-in-Some g c f v z set told =
    let x = subst (IsShaped f v c.args.held.now.at) c.in-Some.is told.held_of.shape in
    let kept = c.is_none.ensures ∙ ap (λ (b : Bool). not b) c.if-is_none.false in
    also_ok c.add_mended.result _ _
    (λ k. kept_added (g.P.Parts.blocks c.args.parts.now) f v c.args.held.now.at c.args.claims.now c.add_mended.new.claims (sym told.kept_is ∙ kept) k)
    (c.add_mended.ensures f v x.1 z (mending_is f v c.args.held.now x.1 c.in-Some.shape c.args.kept c.args.content.now told kept c.in-Some.is x.0 x.2 x.3))

pub returns-in-None : goal.returns-in-None
returns-in-None g c f v z set told =
    holder_added (g.P.Parts.blocks c.args.parts.now) f v c.args.held.now.at c.args.claims.now set (subst (IsShaped f v c.args.held.now.at) c.in-None.is told.held_of.shape)
