use Rattle.std.proofs.Common.{◌≡◌, map, take}
use Rattle.udf_kept.proofs.keep.starts_of.Given as goal

abbrev pub invariant-loop-entry : goal.invariant-loop-entry
invariant-loop-entry l = l.starts.items ≡ map (λ h. h.is_start) (take l.entry-index l.held)
