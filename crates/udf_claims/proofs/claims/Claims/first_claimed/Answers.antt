use Rattle.std.proofs.Common.{arith, sym, ap, ◌∙◌, not}
use Rattle.udf_claims.specs.Winner.{claimed}
use Rattle.udf_claims.proofs.Telling.{claimed_is}
use Rattle.udf_claims.proofs.Walks.{pass_more, fails_here}
use Rattle.udf_claims.proofs.claims.Claims.first_claimed.Goals as goal

pub returns-then-is_some-clause-place : goal.returns-then-is_some-clause-place
returns-then-is_some-clause-place c = fails_here (λ a. not (claimed c.args.self.now a)) c.args.from c.loop-next.next c.args.to c.loop-next.invariant.low c.loop-next-test.true c.loop-next.invariant.passed
    (λ a k e. ap not (claimed_is a c.args.self.now c.piece-piece.result.best (c.piece-piece.ensures.best a k (omega arith) (omega (arith, c.piece-piece.ensures.after))) ∙ sym c.is_some.ensures ∙ c.if-is_some.true))

pub loop-next-preserved : goal.loop-next-preserved
loop-next-preserved c = record {
  low = omega (arith, c.piece-piece.ensures.after);
  high = c.piece-piece.ensures.end;
  passed = pass_more (λ a. not (claimed c.args.self.now a)) c.args.from c.loop-next.next c.piece-piece.result.end c.loop-next.invariant.passed
      (λ a k l h. ap not (claimed_is a c.args.self.now c.piece-piece.result.best (c.piece-piece.ensures.best a k l h) ∙ sym c.is_some.ensures ∙ c.if-is_some.false));
}
