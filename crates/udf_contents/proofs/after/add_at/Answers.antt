use Rattle.std.proofs.Common.{◌≡◌, ◌∙◌, arith}
use Rattle.std.proofs.lemmas.Option.{get_or_from_slice_get, slice_get_within}
use Rattle.udf_contents.proofs.Taking.{adds_same, told_at, told_same}
use Rattle.udf_found.proofs.Wanting.{also_ok}
use Rattle.udf_contents.proofs.after.add_at.Goals as goal

pub returns-in_default : goal.returns-in_default
returns-in_default g c f v z set held kept contents h e =
    let told = told_at f v c.args.held.now c.args.kept.now c.args.contents.now c.args.i h held kept contents e in
    let within = slice_get_within c.args.kept.now c.args.i told.0 told.2 in
    let past = c.in_default.ensures.lookup.3 in
    absurd (omega (arith, within, past))

pub returns-in_default-get : goal.returns-in_default-get
returns-in_default-get g c f v z set held kept contents h e =
    let told = told_at f v c.args.held.now c.args.kept.now c.args.contents.now c.args.i h held kept contents e in
    let within = slice_get_within c.args.contents.now c.args.i told.1 told.3 in
    let past = c.in_default-get.ensures.lookup.3 in
    absurd (omega (arith, within, past))

pub returns : goal.returns
returns g c f v z set held kept contents h e =
    let told = told_at f v c.args.held.now c.args.kept.now c.args.contents.now c.args.i h held kept contents e in
    let entry : c.index-held-i.result ≡ h = c.index-held-i.is ∙ get_or_from_slice_get c.args.held.now c.args.i h c.index-held-i.result e in
    also_ok c.add_kept.result _ _
    (λ k. adds_same _ f v h c.index-held-i.result c.args.claims.now c.add_kept.new.claims entry k)
    (c.add_kept.ensures f v z set
    (told_same f v h c.index-held-i.result told.0 c.in-Some.kept.now told.1 c.in-Some-get.content.now entry
    (c.in-Some.ensures.lookup.1 ∙ get_or_from_slice_get c.args.kept.now c.args.i told.0 c.in-Some.kept.now told.2)
    (c.in-Some-get.ensures.lookup.1 ∙ get_or_from_slice_get c.args.contents.now c.args.i told.1 c.in-Some-get.content.now told.3)
    told.4))
