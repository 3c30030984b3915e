use Rattle.std.proofs.Common.{◌≡◌, ◌++◌, ℕ, List, Some, None, refl, sym, subst, map, rules}
use Rattle.std.specs.Prelude.{slice_get}
use Rattle.std.proofs.lemmas.Option.{slice_get_read, slice_get_past}
use Rattle.udf_kept.specs.declared.fitted.Fitted.{Fitted}
use Rattle.udf_kept.specs.declared.fitted.Selected.{Selected}
use Rattle.udf_held.specs.declared.held.Held.{Held}
use Rattle.udf_kept.specs.FirstLinks.{IsFirst, Told, told_by}
use Rattle.udf_kept.proofs.Parenting.{links_are, links_no_entry, links_no_links, links_none, nothing_more}
use Rattle.udf_kept.proofs.first_links.take_from.Goals as goal

pub returns-in_default : goal.returns-in_default
returns-in_default c done h =
    let e : c.args.depth ≡ None = search rules in
    nothing_more done _ c.args.first.now (links_none c.args.held.now c.args.selected.now c.args.holder c.args.depth e) h

pub returns-in_default-get : goal.returns-in_default-get
returns-in_default-get c done h =
    let e : slice_get c.args.held.now c.args.holder ≡ None = slice_get_past c.args.held.now c.args.holder c.in_default-get.ensures.lookup.3 in
    nothing_more done _ c.args.first.now (links_no_entry c.args.held.now c.args.selected.now c.args.holder c.args.depth e) h

pub returns-in_default-get-2 : goal.returns-in_default-get-2
returns-in_default-get-2 c done h =
    let e : slice_get c.args.selected.now c.args.holder ≡ None = slice_get_past c.args.selected.now c.args.holder c.in_default-get-2.ensures.lookup.3 in
    nothing_more done _ c.args.first.now (links_no_links c.args.held.now c.args.selected.now c.args.holder c.args.depth e) h

pub returns : goal.returns
returns c done h =
    let k : ℕ = c.in-Some.depth in
    let entry : Held = c.in-Some-get.entry.now in
    let x : Selected = c.in-Some-get-2.links.now in
    let i : ℕ = c.args.holder in
    let e : c.args.depth ≡ Some k = c.in-Some.is in
    let f : slice_get c.args.held.now i ≡ Some entry = slice_get_read c.args.held.now _ i entry refl c.in-Some-get.ensures.lookup.3.0 c.in-Some-get.ensures.lookup.1 in
    let g : slice_get c.args.selected.now i ≡ Some x = slice_get_read c.args.selected.now _ i x refl c.in-Some-get-2.ensures.lookup.3.0 c.in-Some-get-2.ensures.lookup.1 in
    subst (λ (ls : List Told). IsFirst (done ++ ls) c.take_links.new.first) (sym (links_are c.args.held.now c.args.selected.now i c.args.depth k entry x e f g))
    (subst (λ (fs : List Fitted). IsFirst (done ++ map (told_by i k entry.at) fs) c.take_links.new.first) c.deref.ensures.value (c.take_links.ensures done h))
