use Rattle.std.proofs.Common.{◌∙◌, ap, sym, length}
use Rattle.udf_outside.proofs.SparseBytes.{length_sparse}
use Rattle.udf_outside.proofs.memory.sparse.Sparse.len.Goals as goal

pub returns : goal.returns
returns c = sym (length_sparse c.self.inside.front.items c.self.inside.len c.self.inside.blocks c.self.invariant.0) ∙ ap length c.self.view_is
