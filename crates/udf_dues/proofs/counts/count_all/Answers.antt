use Rattle.std.proofs.Common.{◌≡◌, ◌+◌, ◌++◌, ℕ, List, ap, sym, ◌∙◌, subst, take, drop, length, replicate, rules}
use Rattle.std.specs.BTreeMap.{get}
use Rattle.std.proofs.lemmas.List.{length-replicate}
use Rattle.udf_dues.specs.declared.counts.Count.{Count}
use Rattle.udf_dues.specs.Marks.{AreMarked, Mark, marks_below, no_count}
use Rattle.udf_found.specs.Order.{addr_cmp}
use Rattle.udf_kept.proofs.Layering.{goes_back}
use Rattle.udf_dues.proofs.Tallying.{marks_next, none_below}
use Rattle.udf_dues.proofs.counts.count_all.Goals as goal

pub loop-position-init : goal.loop-position-init
loop-position-init c =
    let none : c.in_ok-counts.counts.items ≡ replicate (length c.args.parents.now) no_count = c.in_ok-counts.ensures.items_if_clones_equal (λ y k. search (rules, k)) in
    record {
      len = ap length none ∙ length-replicate (length c.args.parents.now) no_count;
      marked = none_below (get addr_cmp c.args.positions.now) c.args.selected.now c.args.parents.now (length c.args.parents.now) c.in_ok-counts.counts.items none;
    }

pub loop-position-preserved : goal.loop-position-preserved
loop-position-preserved c =
    let i : ℕ = c.loop-position.position in
    let old : List Count = c.loop-position.counts.items in
    let new : List Count = c.count_directory.new.counts in
    let before : List Mark = marks_below (get addr_cmp c.args.positions.now) c.args.selected.now c.args.parents.now i in
    let lent = c.deref_mut.ensures.value in
    let same : length new ≡ length old = search rules in
    let back : take c.loop-position.counts.len (new ++ drop (length new) old) ≡ new = goes_back c.loop-position.counts.len new old (search rules) same in
    let counted = c.count_directory.ensures before (subst (AreMarked before) (sym lent) c.loop-position.invariant.marked) in
    record {
      len = ap length back ∙ same ∙ c.loop-position.invariant.len;
      marked =
          subst (AreMarked (marks_below (get addr_cmp c.args.positions.now) c.args.selected.now c.args.parents.now (i + 1))) (sym back)
          (subst (λ (ms : List Mark). AreMarked ms new) (sym (marks_next (get addr_cmp c.args.positions.now) c.args.selected.now c.args.parents.now i _ (search rules))) counted);
    }
