-- No upper partition stands on a block so far.
use Rattle.std.proofs.Common.{◌≡◌, ◌<◌, ℕ, ◌+◌, false}
use Rattle.udf_volume_model.specs.FileSet.{address}
use Rattle.udf_volume.proofs.clear.touches_inner.Given as goal

abbrev pub invariant-loop-i : goal.invariant-loop-i
invariant-loop-i g l = (k : ℕ) → k < l.i → g.P.Parts.inner l.parts (address l.extent.at.part (l.extent.at.block + k)) ≡ false
