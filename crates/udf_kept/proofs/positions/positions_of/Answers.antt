use Rattle.std.specs.BTreeMap.{get}
use Rattle.udf_found.specs.Order.{addr_cmp}
use Rattle.udf_kept.proofs.Indexing.{index_next}
use Rattle.udf_kept.proofs.positions.positions_of.Goals as goal

pub loop-i-preserved : goal.loop-i-preserved
loop-i-preserved c =
    index_next c.args.held.now c.loop-i.i c.index-held-i.result (get addr_cmp c.loop-i.positions) (get addr_cmp c.insert.new.self) c.loop-i-test.true c.index-held-i.is c.loop-i.invariant c.in_ok-insert.ensures.updates.0
