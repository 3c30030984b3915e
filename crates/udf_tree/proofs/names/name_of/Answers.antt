use Rattle.std.proofs.Common.{◌≡◌, ◌<◌, List, arith, length, sym, ap, ◌∙◌}
use Rattle.std.specs.Prelude.{slice_get}
use Rattle.std.proofs.lemmas.Option.{same_Some}
use Rattle.udf_held.specs.declared.held.Held.{Held}
use Rattle.udf_found.specs.declared.link.Link.{Link}
use Rattle.udf_tree.specs.Path.{name_in}
use Rattle.udf_contents.proofs.Mending.{got}
use Rattle.udf_tree.proofs.Stepping.{name_known, name_lost, name_past}
use Rattle.udf_tree.proofs.names.name_of.Goals as goal

pub returns-then-link-indexes : goal.returns-then-link-indexes
returns-then-link-indexes c k h there = absurd (name_past c.args.held.now c.args.indexes.now k c.args.link.holder h there c.if-link-indexes.true)

pub returns-in_default : goal.returns-in_default
returns-in_default c k h there =
    let inside : c.args.link.holder < length c.args.indexes.now = let l = c.if-link-indexes.false in omega (arith, l) in
    c.new-in_default.ensures.items
    ∙ name_lost c.args.held.now c.args.indexes.now k c.args.link.holder h there c.index-indexes-link.result c.args.link.place (got c.args.indexes.now c.args.link.holder c.index-indexes-link.result inside c.index-indexes-link.is) (sym c.in_default.ensures.value)

pub returns : goal.returns
returns c k h there =
    let i = c.args.link.holder in
    let inside : i < length c.args.indexes.now = let l = c.if-link-indexes.false in omega (arith, l) in
    let low : i < length c.args.held.now = let l = c.if-link-held.false in omega (arith, l) in
    let same : c.index-held-link.result ≡ h = same_Some c.index-held-link.result h (sym (got c.args.held.now i c.index-held-link.result low c.index-held-link.is) ∙ there) in
    c.in_ok-name.ensures.items
    ∙ c.name_at.ensures
    ∙ ap (λ (ls : List Link). name_in (slice_get ls c.in-Some.i.now)) c.deref.ensures.value
    ∙ ap (λ (x : Held). name_in (slice_get x.links.items c.in-Some.i.now)) (sym c.index-held-link.is)
    ∙ ap (λ (x : Held). name_in (slice_get x.links.items c.in-Some.i.now)) same
    ∙ name_known c.args.held.now c.args.indexes.now k i h there c.index-indexes-link.result c.args.link.place (got c.args.indexes.now i c.index-indexes-link.result inside c.index-indexes-link.is) c.in-Some.i.now (sym c.in-Some.ensures.value)
