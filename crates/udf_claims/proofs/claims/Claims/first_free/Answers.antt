use Rattle.std.proofs.Common.{arith, ap, not, ◌∙◌}
use Rattle.udf_claims.specs.Winner.{claimed}
use Rattle.udf_claims.proofs.Telling.{claimed_is}
use Rattle.udf_claims.proofs.Walks.{pass_more, fails_here}
use Rattle.udf_claims.proofs.claims.Claims.first_free.Goals as goal

pub returns-then-is_none : goal.returns-then-is_none
returns-then-is_none c = fails_here (claimed c.args.self.now) c.args.from c.loop-next.next c.args.to c.loop-next.invariant.low c.loop-next-test.true c.loop-next.invariant.passed
    (λ a k e. claimed_is a c.args.self.now c.piece-piece.result.best (c.piece-piece.ensures.best a k (omega arith) (omega (arith, c.piece-piece.ensures.after))) ∙ c.is_none.ensures ∙ ap not c.if-is_none.true)

pub loop-next-preserved : goal.loop-next-preserved
loop-next-preserved c = record {
  low = omega (arith, c.piece-piece.ensures.after);
  high = c.piece-piece.ensures.end;
  passed = pass_more (claimed c.args.self.now) c.args.from c.loop-next.next c.piece-piece.result.end c.loop-next.invariant.passed
      (λ a k l h. claimed_is a c.args.self.now c.piece-piece.result.best (c.piece-piece.ensures.best a k l h) ∙ c.is_none.ensures ∙ ap not c.if-is_none.false);
}
