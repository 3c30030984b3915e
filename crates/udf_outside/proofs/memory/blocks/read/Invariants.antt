use Rattle.std.proofs.Common.{◌≡◌, ℕ, ◌+◌, ◌-◌, ◌<◌, ◌≤◌, length, get_or}
use Rattle.udf_outside.specs.Blocks.{byte_in}
use Rattle.udf_outside.proofs.memory.blocks.read.Given as goal

abbrev pub invariant-loop-done : goal.invariant-loop-done
invariant-loop-done l = record {
  begun : l.skip ≤ l.done;
  within : l.done ≤ length l.into;
  skipped : (k : ℕ) → k < l.skip → get_or l.into k 0 ≡ get_or l.initial.into k 0;
  same : (k : ℕ) → l.skip ≤ k → k < l.done → get_or l.into k 0 ≡ byte_in l.blocks (l.at + k);
}

abbrev pub decreases-loop-done : goal.decreases-loop-done
decreases-loop-done l = length l.into - l.done
