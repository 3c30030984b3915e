use Rattle.std.proofs.Common.{◌+◌, arith, sym, ◌∙◌}
use Rattle.std.specs.Ordering.{nat_cmp}
use Rattle.std.specs.BTreeSet.{contains}
use Rattle.udf_dues.proofs.Runs.{run_in_set, one_further}
use Rattle.udf_dues.proofs.identifiers.first_free.Goals as goal

pub overflow_add-next : goal.overflow_add-next
overflow_add-next c =
    let r = run_in_set c.args.set.now.keys c.args.from (c.loop-next.next + 1) (omega (arith, c.loop-next.invariant.low)) (one_further (contains nat_cmp c.args.set.now) c.args.from c.loop-next.next (sym c.contains.ensures ∙ c.loop-next-test.true) c.loop-next.invariant.between) in
    omega (arith, r, c.requires)

pub loop-next-smaller : goal.loop-next-smaller
loop-next-smaller c =
    let r = run_in_set c.args.set.now.keys c.args.from (c.loop-next.next + 1) (omega (arith, c.loop-next.invariant.low)) (one_further (contains nat_cmp c.args.set.now) c.args.from c.loop-next.next (sym c.contains.ensures ∙ c.loop-next-test.true) c.loop-next.invariant.between) in
    omega (arith, r)

pub returns-clause-high : goal.returns-clause-high
returns-clause-high c = run_in_set c.args.set.now.keys c.args.from c.loop-next.next c.loop-next.invariant.low c.loop-next.invariant.between
