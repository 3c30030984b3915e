use Rattle.std.proofs.Common.{◌∙◌, ap, ℕ, List}
use Rattle.udf_outside.specs.Blocks.{sparse_bytes}
use Rattle.udf_outside.proofs.SparseBytes.{sparse_same}
use Rattle.udf_outside.proofs.memory.sparse.Sparse.again.Goals as goal

pub returns : goal.returns
returns c =
    ap (λ (front : List ℕ). sparse_bytes front c.self.inside.len c.in_ok-again.field-0) (c.in_ok-from_slice.ensures.items ∙ c.deref.ensures.value)
    ∙ sparse_same c.self.inside.front.items c.self.inside.len c.self.inside.blocks c.in_ok-again.field-0 c.in_ok-again.ensures ∙ c.self.view_is
