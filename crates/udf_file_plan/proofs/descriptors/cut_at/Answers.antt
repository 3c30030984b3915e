use Rattle.std.proofs.Common.{arith, length}
use Rattle.udf_entry.specs.RunView.{run_seen}
use Rattle.udf_entry.proofs.Walking.{in_body}
use Rattle.udf_file_plan.proofs.CutAt as walk
use Rattle.udf_file_plan.proofs.descriptors.cut_at.Goals as goal

pub run_at-run-requires-clause-short : goal.run_at-run-requires-clause-short
run_at-run-requires-clause-short c e =
    (in_body c.args.kind (length c.args.body.now) c.loop-i.i (omega (arith, c.count_of-many.ensures, c.loop-i-test.true))).0 e

pub run_at-run-requires-clause-long : goal.run_at-run-requires-clause-long
run_at-run-requires-clause-long c e =
    (in_body c.args.kind (length c.args.body.now) c.loop-i.i (omega (arith, c.count_of-many.ensures, c.loop-i-test.true))).1 e

pub returns-then-run-eq0-clause-cut : goal.returns-then-run-eq0-clause-cut
returns-then-run-eq0-clause-cut c =
    walk.zero_here c.args.kind c.args.holder c.args.body.now c.count_of-many.result c.args.bytes c.count_of-many.ensures c.loop-i.left c.loop-i.i c.loop-i.invariant.cut
    c.loop-i-test.true (run_seen c.run_at-run.result) c.run_at-run.ensures.run c.if-run-eq0.true

pub returns-then-run-eq-CONTINUATION-clause-cut : goal.returns-then-run-eq-CONTINUATION-clause-cut
returns-then-run-eq-CONTINUATION-clause-cut c =
    walk.beyond c.args.kind c.args.holder c.args.body.now c.count_of-many.result c.args.bytes c.count_of-many.ensures c.loop-i.left c.loop-i.i c.loop-i.invariant.cut
    c.loop-i-test.true (run_seen c.run_at-run.result) c.run_at-run.ensures.run c.if-run-eq0.false c.if-run-eq-CONTINUATION.true

pub returns-then-left-run-clause-cut : goal.returns-then-left-run-clause-cut
returns-then-left-run-clause-cut c =
    walk.within c.args.kind c.args.holder c.args.body.now c.count_of-many.result c.args.bytes c.count_of-many.ensures c.loop-i.left c.loop-i.i c.loop-i.invariant.cut
    c.loop-i-test.true (run_seen c.run_at-run.result) c.run_at-run.ensures.run c.if-run-eq0.false c.if-run-eq-CONTINUATION.false c.if-left-run.true

pub loop-i-preserved : goal.loop-i-preserved
loop-i-preserved c = record {
  cut = walk.further c.args.kind c.args.holder c.args.body.now c.count_of-many.result c.args.bytes c.count_of-many.ensures c.loop-i.left c.loop-i.i c.loop-i.invariant.cut
      c.loop-i-test.true (run_seen c.run_at-run.result) c.run_at-run.ensures.run c.if-run-eq0.false c.if-run-eq-CONTINUATION.false (omega (arith, c.if-left-run.false));
}

pub returns-clause-cut : goal.returns-clause-cut
returns-clause-cut c =
    walk.done c.args.kind c.args.holder c.args.body.now c.count_of-many.result c.args.bytes c.count_of-many.ensures c.loop-i.left c.loop-i.i c.loop-i.invariant.cut (omega arith)
