use Rattle.std.proofs.Common.{arith}
use Rattle.udf_claims.proofs.Winning.{champion_wins}
use Rattle.udf_claims.proofs.claims.Claims.winner.Goals as goal

pub returns : goal.returns
returns c = λ owner. champion_wins owner c.args.at c.args.self.now c.piece.result.best c.champion_of.result
    (c.piece.ensures.best c.args.at (omega arith) (omega arith) (omega (arith, c.piece.ensures.after))) c.champion_of.ensures
