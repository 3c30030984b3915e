use Rattle.std.proofs.Common.{◌≡◌, ◌<◌, List, length, get_or, sym, ap, ◌∙◌, subst}
use Rattle.std.specs.BTreeMap.{get}
use Rattle.std.specs.Ordering.{nat_cmp}
use Rattle.udf_tree_model.specs.Frame.{setting_of, tree_of}
use Rattle.udf_found.specs.declared.link.Link.{Link}
use Rattle.udf_tree.proofs.Judging.{verdict_known, verdict_put}
use Rattle.udf_tree.proofs.judge.verdicts_of.Goals as goal

pub loop-link-preserved-then-contains_key : goal.loop-link-preserved-then-contains_key
loop-link-preserved-then-contains_key c =
    let ls = c.args.entry.now.links.items in
    let j = c.loop-link.link-index in
    let l : Link = c.link-item.result in
    let low : j < length ls = subst (λ (xs : List Link). j < length xs) c.deref-link-items.ensures.value c.loop-link-test.true in
    let is : l ≡ get_or ls j l = c.link-item.is ∙ ap (λ (xs : List Link). get_or xs j l) c.deref-link-items.ensures.value in
    record {
      sorted = c.loop-link.invariant.sorted;
      told = λ f v k. verdict_known (setting_of f v) (tree_of f v) c.args.entry.now.at ls j l low is (get nat_cmp c.loop-link.verdicts) (c.loop-link.invariant.told f v k) (sym c.contains_key.ensures ∙ c.if-contains_key.true);
    }

pub loop-link-preserved : goal.loop-link-preserved
loop-link-preserved c =
    let ls = c.args.entry.now.links.items in
    let j = c.loop-link.link-index in
    let l : Link = c.link-item.result in
    let low : j < length ls = subst (λ (xs : List Link). j < length xs) c.deref-link-items.ensures.value c.loop-link-test.true in
    let is : l ≡ get_or ls j l = c.link-item.is ∙ ap (λ (xs : List Link). get_or xs j l) c.deref-link-items.ensures.value in
    record {
      sorted = c.insert.ensures.ordered;
      told = λ f v k.
          verdict_put (setting_of f v) (tree_of f v) c.args.entry.now.at ls j l low is (get nat_cmp c.loop-link.verdicts) (c.loop-link.invariant.told f v k) (sym c.contains_key.ensures ∙ c.if-contains_key.false)
          (get nat_cmp c.insert.new.self) c.verdict_of.result (c.verdict_of.ensures f v k) c.in_ok-insert.ensures.updates.0;
    }
