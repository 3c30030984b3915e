use Rattle.udf_outside.proofs.Sparsely.{clones}
use Rattle.udf_outside.proofs.memory.blocks.again.Goals as goal

pub returns : goal.returns
returns c = clones _ c.clone.result c.args.blocks.now c.clone.ensures.cases
