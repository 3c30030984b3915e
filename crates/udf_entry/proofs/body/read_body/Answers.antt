use Rattle.std.proofs.Common.{arith, sym, ◌∙◌, ap, length}
use Rattle.udf_entry.proofs.Walking.{in_body}
use Rattle.udf_entry.specs.RunView.{run_seen}
use Rattle.udf_entry.specs.ReadingView.{past_of, rules_seen}
use Rattle.udf_entry.proofs.Bodies.{ends_here, all_read, goes_onward, fails_here, goes_on}
use Rattle.udf_entry.proofs.body.read_body.Goals as goal

pub run_at-run-requires-clause-short : goal.run_at-run-requires-clause-short
run_at-run-requires-clause-short g c e =
    (in_body c.args.kind (length c.args.body.now) c.loop-i.i (omega (arith, c.count_of-count.ensures, c.loop-i-test.true))).0 e

pub run_at-run-requires-clause-long : goal.run_at-run-requires-clause-long
run_at-run-requires-clause-long g c e =
    (in_body c.args.kind (length c.args.body.now) c.loop-i.i (omega (arith, c.count_of-count.ensures, c.loop-i-test.true))).1 e

pub returns-then-run-eq0-clause-outcome : goal.returns-then-run-eq0-clause-outcome
returns-then-run-eq0-clause-outcome g c k whole =
    ends_here (rules_seen c.args.reading.rules (g.P.Parts.place c.args.parts.now)) c.args.kind c.args.holder c.args.body.now c.count_of-count.result (past_of c.args.reading)
    (past_of c.loop-i.reading) c.loop-i.i (run_seen c.run_at-run.result) c.count_of-count.ensures (omega arith) c.loop-i.invariant.body c.run_at-run.ensures c.if-run-eq0.true k whole

pub returns-then-run-eq-CONTINUATION-clause-outcome : goal.returns-then-run-eq-CONTINUATION-clause-outcome
returns-then-run-eq-CONTINUATION-clause-outcome g c k whole =
    goes_onward (rules_seen c.args.reading.rules (g.P.Parts.place c.args.parts.now)) c.args.kind c.args.holder c.args.body.now c.count_of-count.result (past_of c.args.reading)
    (past_of c.loop-i.reading) c.loop-i.i (run_seen c.run_at-run.result) c.count_of-count.ensures (omega arith) c.loop-i.invariant.body c.run_at-run.ensures c.if-run-eq0.false
    c.if-run-eq-CONTINUATION.true k whole

pub returns-then-not-whole-clause-outcome : goal.returns-then-not-whole-clause-outcome
returns-then-not-whole-clause-outcome g c k whole =
    fails_here (rules_seen c.args.reading.rules (g.P.Parts.place c.args.parts.now)) c.args.kind c.args.holder c.args.body.now c.count_of-count.result (past_of c.args.reading)
    (rules_seen c.loop-i.reading.rules (g.P.Parts.place c.args.parts.now)) (past_of c.loop-i.reading) c.loop-i.i (run_seen c.run_at-run.result) (past_of c.in_ok-taken.taken)
    c.count_of-count.ensures (omega arith) c.loop-i.invariant.body c.run_at-run.ensures c.if-run-eq0.false c.if-run-eq-CONTINUATION.false
    (ap (λ z. rules_seen z (g.P.Parts.place c.args.parts.now)) c.loop-i.invariant.rules)
    (sym c.if-not-whole.true ∙ c.in_ok-taken.ensures.whole) (c.in_ok-taken.ensures.front c.if-not-whole.true) k whole

pub loop-i-preserved : goal.loop-i-preserved
loop-i-preserved g c = record {
  body = goes_on (rules_seen c.args.reading.rules (g.P.Parts.place c.args.parts.now)) c.args.kind c.args.holder c.args.body.now c.count_of-count.result (past_of c.args.reading)
      (rules_seen c.loop-i.reading.rules (g.P.Parts.place c.args.parts.now)) (past_of c.loop-i.reading) c.loop-i.i (run_seen c.run_at-run.result) (past_of c.in_ok-taken.taken)
      (omega arith) c.loop-i.invariant.body c.run_at-run.ensures c.if-run-eq0.false c.if-run-eq-CONTINUATION.false
      (ap (λ z. rules_seen z (g.P.Parts.place c.args.parts.now)) c.loop-i.invariant.rules)
      (sym c.if-not-whole.false ∙ c.in_ok-taken.ensures.whole) (c.in_ok-taken.ensures.done c.if-not-whole.false);
  rules = c.in_ok-taken.ensures.rules ∙ c.loop-i.invariant.rules;
  extents = ap (λ p. p.extents) (c.in_ok-taken.ensures.done c.if-not-whole.false) ∙ c.loop-i.invariant.extents;
}

pub returns-clause-outcome : goal.returns-clause-outcome
returns-clause-outcome g c k whole =
    all_read (rules_seen c.args.reading.rules (g.P.Parts.place c.args.parts.now)) c.args.kind c.args.holder c.args.body.now c.count_of-count.result (past_of c.args.reading)
    (past_of c.loop-i.reading) c.loop-i.i c.count_of-count.ensures (omega arith) c.loop-i.invariant.body k whole
