use Rattle.std.proofs.Common.{arith}
use Rattle.udf_claims.specs.Winner.{wins, wins_block}
use Rattle.udf_claims.proofs.Walks.{shift_all, shift_first}
use Rattle.udf_claims.proofs.claims.Claims.lost.Goals as goal

pub returns-in-Some : goal.returns-in-Some
unfolding wins_block
returns-in-Some c = shift_first (wins c.args.self.now c.args.owner) c.args.at c.number_of-start.result c.args.blocks c.in-Some.x c.number_of-start.ensures.number (omega arith) c.in-Some.ensures

pub returns-in-None : goal.returns-in-None
unfolding wins_block
returns-in-None c = shift_all (wins c.args.self.now c.args.owner) c.args.at c.number_of-start.result c.args.blocks c.number_of-start.ensures.number (omega arith) c.in-None.ensures
