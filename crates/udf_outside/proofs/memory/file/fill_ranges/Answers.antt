use Rattle.std.proofs.Common.{List, sym, subst, false, take, get_or}
use Rattle.std.proofs.lemmas.List.{take_more}
use Rattle.udf_outside.specs.declared.memory.range.Range.{Range}
use Rattle.udf_outside.specs.Ranges.{covers}
use Rattle.udf_outside.specs.Refill.{Refills}
use Rattle.udf_outside.proofs.Refilling.{refills_more}
use Rattle.udf_outside.proofs.memory.file.fill_ranges.Goals as goal

pub loop-range-preserved : goal.loop-range-preserved
loop-range-preserved c =
    let none : Range = record { at = 0; len = 0 } in
    let ranges = c.args.ranges.now in
    let i = c.loop-range.range-index in
    subst (λ (l : List Range). Refills c.args.fill (covers l) (λ k. false) c.args.left.now c.fill_range.new.left) (sym (take_more ranges i none c.loop-range-test.true))
    (refills_more c.args.fill (take i ranges) (get_or ranges i none) c.args.left.now c.loop-range.left c.fill_range.new.left c.loop-range.invariant c.in_ok-fill_range.ensures)
