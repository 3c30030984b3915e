use Rattle.std.proofs.Common.{◌≡◌, ℕ, ◌-◌, ◌≤◌}
use Rattle.udf_outside.specs.Blocks.{byte_in}
use Rattle.udf_outside.proofs.memory.blocks.sweep.Given as goal

abbrev pub invariant-loop-done : goal.invariant-loop-done
invariant-loop-done l = record { within : l.done ≤ l.n; same : (i : ℕ) → byte_in l.blocks i ≡ byte_in l.initial.blocks i }

abbrev pub decreases-loop-done : goal.decreases-loop-done
decreases-loop-done l = l.n - l.done
