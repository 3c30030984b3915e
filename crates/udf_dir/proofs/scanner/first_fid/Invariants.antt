use Rattle.std.proofs.Common.{◌-◌, length}
use Rattle.udf_dir.proofs.Steps.{NoneBefore}
use Rattle.udf_dir.proofs.scanner.first_fid.Given as goal

abbrev pub invariant-loop-at : goal.invariant-loop-at
invariant-loop-at l = NoneBefore l.size l.bytes l.at

abbrev pub decreases-loop-at : goal.decreases-loop-at
decreases-loop-at l = length l.bytes - l.at
