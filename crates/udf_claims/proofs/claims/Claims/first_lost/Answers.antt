use Rattle.std.proofs.Common.{arith, ◌∙◌}
use Rattle.udf_claims.specs.Winner.{wins}
use Rattle.udf_claims.proofs.Winning.{wins_is}
use Rattle.udf_claims.proofs.Walks.{pass_more, fails_here}
use Rattle.udf_claims.proofs.claims.Claims.first_lost.Goals as goal

pub returns-then-not-is_won_by : goal.returns-then-not-is_won_by
returns-then-not-is_won_by c = fails_here (wins c.args.self.now c.args.owner) c.args.from c.loop-next.next c.args.to c.loop-next.invariant.low c.loop-next-test.true c.loop-next.invariant.passed
    (λ a k e. wins_is c.args.owner a c.args.self.now c.piece-piece.result.best c.is_won_by.result (c.piece-piece.ensures.best a k (omega arith) (omega (arith, c.piece-piece.ensures.after))) c.is_won_by.ensures ∙ c.if-not-is_won_by.true)

pub loop-next-preserved : goal.loop-next-preserved
loop-next-preserved c = record {
  low = omega (arith, c.piece-piece.ensures.after);
  high = c.piece-piece.ensures.end;
  passed = pass_more (wins c.args.self.now c.args.owner) c.args.from c.loop-next.next c.piece-piece.result.end c.loop-next.invariant.passed
      (λ a k l h. wins_is c.args.owner a c.args.self.now c.piece-piece.result.best c.is_won_by.result (c.piece-piece.ensures.best a k l h) c.is_won_by.ensures ∙ c.if-not-is_won_by.false);
}
