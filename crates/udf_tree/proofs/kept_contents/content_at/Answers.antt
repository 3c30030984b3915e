use Rattle.std.proofs.Common.{◌≡◌, ◌<◌, ◌≤◌, List, Option, Some, None, length, get_or, arith, sym, ap, ◌∙◌, subst}
use Rattle.std.specs.Prelude.{slice_get}
use Rattle.std.proofs.lemmas.Option.{same_Some}
use Rattle.udf_tree_model.specs.Frame.{setting_of, tree_of}
use Rattle.udf_kept.specs.declared.fitted.Selected.{Selected}
use Rattle.udf_held.specs.declared.held.Held.{Held}
use Rattle.udf_kept.specs.declared.keeping.Keeping.{Keeping}
use Rattle.udf_kept.specs.Fitted.{IsSelected}
use Rattle.udf_kept.proofs.ByIndex.{selected_at}
use Rattle.udf_tree.proofs.Enrolling.{starts}
use Rattle.udf_kept.proofs.Indexing.{member_of_get}
use Rattle.udf_tree.proofs.Measuring.{content_found, content_lost, kept_by_it, nothing_there, selected_long}
use Rattle.udf_contents.proofs.Mending.{got}
use Rattle.udf_tree.proofs.kept_contents.content_at.Goals as goal

pub returns-in_default : goal.returns-in_default
returns-in_default c f v links ids some k =
    content_lost f v c.args.root c.args.file_set c.args.entries.now links ids k c.args.i None
    (ap (λ (ks : List (Option Keeping)). get_or ks c.args.i None) (sym c.deref.ensures.value) ∙ sym c.keeping_at.ensures ∙ c.in_default.is)

pub returns-then-i-len : goal.returns-then-i-len
returns-then-i-len c f v links ids some k =
    let over : length c.args.entries.now.held.items ≤ c.args.i = let n = c.len.ensures in let l = c.if-i-len.true in omega (arith, n, l) in
    nothing_there f v c.args.entries.now.held.items c.args.i None over

pub returns-then-i-len-2 : goal.returns-then-i-len-2
returns-then-i-len-2 c f v links ids some k =
    let long = selected_long f v c.args.root c.args.file_set c.args.entries.now links ids k c.args.i in
    let over : length c.args.entries.now.held.items ≤ c.args.i = let n = c.len-2.ensures in let l = c.if-i-len-2.true in omega (arith, n, l, long) in
    nothing_there f v c.args.entries.now.held.items c.args.i None over

pub returns : goal.returns
returns c f v links ids some k =
    let e = c.args.entries.now in
    let s = setting_of f v in
    let t = tree_of f v in
    let h : Held = c.index-entry.result.now in
    let own : Selected = c.index-own.result.now in
    let inside : c.args.i < length e.held.items = let n = c.len.ensures in let l = c.if-i-len.false in omega (arith, n, l) in
    let within : c.args.i < length e.selected.items = let n = c.len-2.ensures in let l = c.if-i-len-2.false in omega (arith, n, l) in
    let there : slice_get e.held.items c.args.i ≡ Some h = got e.held.items c.args.i h inside c.index-entry.ensures in
    let m = member_of_get e.held.items c.args.i h there in
    let x = selected_at s t e.held.items k.entries.held.held e.selected.items k.entries.selected c.args.i h there in
    let same : x.0 ≡ own = same_Some x.0 own (sym x.1 ∙ got e.selected.items c.args.i own within c.index-own.ensures) in
    let keeping = ap (λ (ks : List (Option Keeping)). get_or ks c.args.i None) (sym c.deref.ensures.value) ∙ sym c.keeping_at.ensures ∙ c.in-Some.is in
    content_found f v c.args.root c.args.file_set e links ids k c.args.i h there c.content_of.result
    (c.content_of.ensures f v k.root_is k.file_set_is some (starts f v c.args.root c.args.file_set e links ids k) (k.entries.held.held.each h m) (k.entries.held.each_of h m)
    (subst (λ (z : Selected). IsSelected s t e.held.items h z) same x.2) (kept_by_it f v c.args.root c.args.file_set e links ids k c.args.i h c.in-Some.keeping there keeping))
