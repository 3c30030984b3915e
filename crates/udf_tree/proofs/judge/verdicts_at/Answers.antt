use Rattle.std.proofs.Common.{List, length, arith, sym, ◌<◌, subst}
use Rattle.udf_kept.specs.declared.fitted.Selected.{Selected}
use Rattle.udf_held.specs.declared.held.Held.{Held}
use Rattle.udf_contents.specs.Stays.{Tells}
use Rattle.udf_tree.proofs.Judging.{judged_there, surveyed_tells}
use Rattle.udf_contents.proofs.Mending.{got}
use Rattle.udf_tree.proofs.judge.verdicts_at.Goals as goal

pub returns : goal.returns
returns c f v root file_set links ids k =
    let e = c.args.entries.now in
    let h : Held = c.index-entry.result.now in
    let inside : c.args.i < length e.held.items = let n = c.len.ensures in let l = c.if-i-len.false in omega (arith, n, l) in
    let tells : Tells f v c.deref.result.now c.deref-2.result.now =
    subst (λ (hs : List Held). Tells f v hs c.deref-2.result.now) (sym c.deref.ensures.value)
    (subst (λ (xs : List Selected). Tells f v e.held.items xs) (sym c.deref-2.ensures.value) (surveyed_tells f v root file_set e links ids k)) in
    judged_there f v root file_set e links ids k c.args.i h (got e.held.items c.args.i h inside c.index-entry.ensures) c.in_ok-verdicts.verdicts.entries c.in_ok-verdicts.ensures.ordered (c.in_ok-verdicts.ensures.verdicts f v tells)
