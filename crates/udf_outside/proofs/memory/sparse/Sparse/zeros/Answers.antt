use Rattle.std.proofs.Common.{◌∙◌, ap, ℕ, List}
use Rattle.udf_outside.specs.Blocks.{sparse_bytes}
use Rattle.udf_outside.proofs.Sparsely.{none_kept}
use Rattle.udf_outside.proofs.SparseBytes.{sparse_zeros}
use Rattle.udf_outside.proofs.memory.sparse.Sparse.zeros.Goals as goal

pub returns : goal.returns
returns c = ap (λ (front : List ℕ). sparse_bytes front c.args.n c.new-2.result) c.new.ensures.items ∙ sparse_zeros c.new-2.result c.args.n (none_kept c.new-2.result c.new-2.ensures.empty)
