use Rattle.std.proofs.Common.{◌+◌, sym, subst}
use Rattle.std.specs.Ordering.{nat_cmp}
use Rattle.std.specs.BTreeSet.{contains}
use Rattle.udf_dues.proofs.Filling.{State, filling_begins, filling_more, filling_ends}
use Rattle.udf_dues.proofs.identifiers.fill.Goals as goal

pub loop-id-init : goal.loop-id-init
loop-id-init c = subst (State c.args.ids.now 0 16) (sym c.new-wanted.ensures.items) (filling_begins c.args.ids.now)

pub loop-id-preserved : goal.loop-id-preserved
loop-id-preserved c =
    subst (State c.args.ids.now (c.loop-id.id-index + 1) c.choose.new.next) (sym c.in_ok-push.ensures.items)
    (filling_more c.args.ids.now (contains nat_cmp c.in_ok-taken.taken) c.loop-id.id-index c.loop-id.next c.choose.new.next c.choose.result c.loop-id.wanted.items c.in_ok-taken.ensures.taken c.loop-id-test.true c.choose.ensures c.loop-id.invariant)

pub returns : goal.returns
returns c = filling_ends c.args.ids.now c.loop-id.id-index c.loop-id.next c.loop-id.wanted.items c.loop-id-test.false c.loop-id.invariant
