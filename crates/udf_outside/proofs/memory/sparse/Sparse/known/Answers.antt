use Rattle.std.proofs.Common.{subst}
use Rattle.udf_model.specs.Bytes.{IsBytes}
use Rattle.udf_outside.proofs.SparseBytes.{sparse_is_bytes}
use Rattle.udf_outside.proofs.memory.sparse.Sparse.known.Goals as goal

pub returns : goal.returns
returns c =
    let front : IsBytes c.self.inside.front.items = subst IsBytes c.deref.ensures.value c.known_bytes.ensures in
    subst IsBytes c.self.view_is (sparse_is_bytes c.self.inside.front.items c.self.inside.len c.self.inside.blocks c.self.invariant.0 front c.self.invariant.2)
