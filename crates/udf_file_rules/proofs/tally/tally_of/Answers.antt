use Rattle.std.proofs.Common.{arith, refl}
use Rattle.udf_file_rules.specs.Tallied.{tally_of}
use Rattle.udf_file_rules.proofs.Tallying.{few_more, one_more}
use Rattle.udf_file_rules.proofs.tally.tally_of.Goals as goal

pub loop-id-init : goal.loop-id-init
unfolding tally_of
loop-id-init c = record { counted = refl; few = omega arith }

pub loop-id-preserved : goal.loop-id-preserved
loop-id-preserved c = record {
  counted = one_more c.args.survey.now c.in_order-order.result.now c.loop-id.id-index _ c.node.result.now _ _ c.loop-id-test.true c.node.ensures c.loop-id.invariant.counted c.with-tally.ensures;
  few = few_more c.node.result.now c.loop-id.tally c.with-tally.result c.loop-id.id-index c.loop-id.invariant.few c.with-tally.ensures;
}
