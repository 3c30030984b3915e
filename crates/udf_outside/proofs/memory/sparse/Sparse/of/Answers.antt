use Rattle.std.proofs.Common.{arith}
use Rattle.std.proofs.lemmas.Grind.{common_steps}
use Rattle.udf_outside.proofs.SparseBytes.{sparse_front}
use Rattle.udf_outside.proofs.memory.sparse.Sparse.of.Goals as goal

pub returns : goal.returns
returns c = sparse_front c.args.bytes.items c.new.result c.len.result (grind (arith, common_steps))
