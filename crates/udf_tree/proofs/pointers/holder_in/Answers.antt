use Rattle.std.proofs.Common.{◌≡◌, false, true, List, rules, sym, subst}
use Rattle.std.specs.Prelude.{is_some}
use Rattle.std.proofs.lemmas.List.{take_all}
use Rattle.udf_tree_model.specs.Among.{Member}
use Rattle.udf_held.specs.declared.held.Held.{Held}
use Rattle.udf_contents.proofs.Mending.{got}
use Rattle.udf_tree.proofs.Streaming.{none_by, none_more}
use Rattle.udf_tree.proofs.pointers.holder_in.Goals as goal

pub returns-then-is_none : goal.returns-then-is_none
returns-then-is_none c =
    let h : Held = c.index-held-i.result in
    let none : is_some h.shape ≡ false = search rules in
    (h, got c.args.held.now c.loop-i.i h c.loop-i-test.true c.index-held-i.is, none_by h.shape none)

pub loop-i-preserved : goal.loop-i-preserved
loop-i-preserved c =
    let h : Held = c.index-held-i.result in
    let some : is_some h.shape ≡ true = search rules in
    none_more c.args.held.now c.loop-i.i h c.loop-i-test.true c.index-held-i.is some c.loop-i.invariant

pub returns : goal.returns
returns c h m e = c.loop-i.invariant h (subst (λ (hs : List Held). Member h hs) (sym (take_all c.loop-i.i c.args.held.now c.loop-i-test.false)) m) e
