use Rattle.std.proofs.Common.{arith}
use Rattle.udf_blocks.proofs.Growing.{few_placed}
use Rattle.udf_blocks.proofs.plan.Plan.len.Goals as goal

pub overflow_cast-result : goal.overflow_cast-result
overflow_cast-result c = omega (arith, few_placed c.self.inside.size c.self.inside.blocks.items c.self.invariant)
