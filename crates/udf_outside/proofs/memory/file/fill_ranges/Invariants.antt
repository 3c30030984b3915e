use Rattle.std.proofs.Common.{false, take}
use Rattle.udf_outside.specs.Ranges.{covers}
use Rattle.udf_outside.specs.Refill.{Refills}
use Rattle.udf_outside.proofs.memory.file.fill_ranges.Given as goal

abbrev pub invariant-loop-range : goal.invariant-loop-range
invariant-loop-range l = Refills l.fill (covers (take l.range-index l.ranges)) (λ i. false) l.initial.left l.left
