use Rattle.std.proofs.Common.{All}
use Rattle.udf_outside.specs.Blocks.{AgreeIn}
use Rattle.udf_outside.proofs.memory.sparse.Sparse.agrees_where.Given as goal

abbrev pub invariant-loop-number : goal.invariant-loop-number
invariant-loop-number l = All (λ number. AgreeIn l.self l.other number.now) l.yielded
