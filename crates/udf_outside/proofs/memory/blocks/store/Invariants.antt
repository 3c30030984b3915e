use Rattle.std.proofs.Common.{◌≡◌, ℕ, ◌+◌, ◌-◌, ◌≤◌, length, get_or, if◌then◌else◌, is_some}
use Rattle.udf_outside.specs.Stops.{is_within}
use Rattle.udf_outside.specs.Blocks.{kept, byte_in}
use Rattle.udf_outside.proofs.memory.blocks.store.Given as goal

abbrev pub invariant-loop-done : goal.invariant-loop-done
invariant-loop-done l = record {
  begun : l.skip ≤ l.done;
  within : l.done ≤ length l.from;
  bytes : (i : ℕ) → byte_in l.blocks i ≡ (if is_within (l.at + l.skip) (l.done - l.skip) i then get_or l.from (i - l.at) 0 else byte_in l.initial.blocks i);
  there : (q : ℕ) → is_some (kept l.blocks q) ≡ is_some (kept l.initial.blocks q);
}

abbrev pub decreases-loop-done : goal.decreases-loop-done
decreases-loop-done l = length l.from - l.done
