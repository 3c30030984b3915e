use Rattle.udf_found.proofs.Going.{member_at}
use Rattle.udf_kept.proofs.Selecting.{selected_more}
use Rattle.udf_kept.proofs.select.select_all.Goals as goal

pub loop-entry-preserved : goal.loop-entry-preserved
loop-entry-preserved c = λ s t k.
    selected_more s t c.args.held.now c.loop-entry.entry-index c.entry-item.result c.loop-entry.all.items c.push.new.self.items c.in_ok-selected_of.field-0 c.loop-entry-test.true c.entry-item.is c.in_ok-push.ensures.items
    (c.in_ok-selected_of.ensures s t k (member_at c.args.held.now c.loop-entry.entry-index c.entry-item.result c.loop-entry-test.true c.entry-item.is))
    (c.loop-entry.invariant s t k)
