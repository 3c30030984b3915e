use Rattle.std.proofs.Common.{◌≡◌, ℕ, ◌≤◌, ◌&&◌, false, nat_le, nat_lt, ◌-◌}
use Rattle.std.specs.Ordering.{nat_cmp}
use Rattle.std.specs.BTreeMap.{get}
use Rattle.udf_claims.specs.Standing.{HasNone}
use Rattle.udf_claims.proofs.steps.clear.Given as goal

abbrev pub invariant-loop-key : goal.invariant-loop-key
invariant-loop-key l = record {
  low : l.from ≤ l.next;
  high : l.next ≤ l.to;
  inside : HasNone (get nat_cmp l.steps) l.from l.next;
  outside : (q : ℕ) → (nat_le l.from q && nat_lt q l.to) ≡ false → get nat_cmp l.steps q ≡ get nat_cmp l.fn.steps q;
}

abbrev pub decreases-loop-key : goal.decreases-loop-key
decreases-loop-key l = l.to - l.next
