use Rattle.udf_outside.proofs.SparseBytes.{zeros_at}
use Rattle.udf_outside.proofs.memory.block.Block.zeros.Goals as goal

pub returns : goal.returns
returns c k = zeros_at c.in_ok-vec.field-0.items 4096 k (c.in_ok-vec.ensures.items_if_clones_equal (λ y same. same))
