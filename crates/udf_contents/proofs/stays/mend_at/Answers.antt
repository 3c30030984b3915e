use Rattle.std.proofs.Common.{◌≡◌, sym, ◌∙◌, subst, arith, Option}
use Rattle.std.proofs.lemmas.Option.{same_Some, get_or_from_slice_get, slice_get_within}
use Rattle.udf_tree_model.specs.Frame.{setting_of, tree_of}
use Rattle.udf_kept.specs.declared.fitted.Selected.{Selected}
use Rattle.udf_kept.specs.declared.keeping.Keeping.{Keeping}
use Rattle.udf_kept.specs.Fitted.{IsSelected}
use Rattle.udf_kept.specs.Keeping.{IsKeeping}
use Rattle.udf_contents.specs.Stays.{IsMend}
use Rattle.udf_kept.proofs.Indexing.{member_of_get}
use Rattle.udf_contents.proofs.Mending.{keeping_there}
use Rattle.udf_contents.proofs.Staying.{selected_at}
use Rattle.udf_contents.proofs.stays.mend_at.Goals as goal

pub returns-then-i-selected : goal.returns-then-i-selected
returns-then-i-selected c f v k at o e =
    let x = selected_at f v c.args.held.now c.args.held.now c.args.selected.now c.args.i c.args.entry.now k.tells.selected.each at in
    let low = slice_get_within c.args.selected.now c.args.i x.0 x.1 in
    let over = c.if-i-selected.true in
    absurd (omega (arith, low, over))

pub returns-then-i-kept : goal.returns-then-i-kept
returns-then-i-kept c f v k at o e =
    let low = slice_get_within c.args.kept.now c.args.i o e in
    let over = c.if-i-kept.true in
    absurd (omega (arith, low, over))

pub returns : goal.returns
returns c f v k at o e =
    let hs = c.args.held.now in
    let h = c.args.entry.now in
    let i = c.args.i in
    let s = setting_of f v in
    let t = tree_of f v in
    let x = selected_at f v hs hs c.args.selected.now i h k.tells.selected.each at in
    let y = keeping_there s t hs hs c.args.kept.now i h k.kept_are.each at in
    let same : c.keeping_at-keeping.result ≡ y.0 = same_Some c.keeping_at-keeping.result y.0 (sym c.keeping_at-keeping.ensures ∙ y.1) in
    let told : c.keeping_at-keeping.result ≡ o = same_Some c.keeping_at-keeping.result o (sym c.keeping_at-keeping.ensures ∙ e) in
    let own : c.index-selected-i.result ≡ x.0 = c.index-selected-i.is ∙ get_or_from_slice_get c.args.selected.now i x.0 c.index-selected-i.result x.1 in
    subst (λ (z : Option Keeping). IsMend f v h z c.mend_of.result) told
    (c.mend_of.ensures f v c.args.kept.now k (member_of_get hs i h at) (subst (λ (z : Selected). IsSelected s t hs h z) (sym own) x.2) (subst (λ (z : Option Keeping). IsKeeping s t hs h z) (sym same) y.2))
