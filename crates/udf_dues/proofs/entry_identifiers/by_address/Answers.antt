use Rattle.std.proofs.Common.{rules}
use Rattle.std.specs.BTreeMap.{get}
use Rattle.udf_found.specs.Order.{addr_cmp}
use Rattle.udf_dues.proofs.Sorting.{given_more}
use Rattle.udf_dues.proofs.entry_identifiers.by_address.Goals as goal

pub loop-i-preserved : goal.loop-i-preserved
loop-i-preserved c of e a =
    given_more of c.args.addresses.now c.args.ids.now c.loop-i.i _ _ (get addr_cmp c.loop-i.given) (get addr_cmp c.insert.new.self) c.loop-i-test.true (search rules) (search rules) e
    (c.loop-i.invariant of e) c.in_ok-insert.ensures.updates.0 a
