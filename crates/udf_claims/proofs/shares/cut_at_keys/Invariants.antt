use Rattle.std.proofs.Common.{ℕ, ◌≤◌, ◌<◌, ◌-◌}
use Rattle.udf_claims.specs.Standing.{HasKey, SameOwners}
use Rattle.udf_claims.proofs.shares.cut_at_keys.Given as goal

abbrev pub invariant-loop-key : goal.invariant-loop-key
invariant-loop-key l = record {
  low : l.from ≤ l.next;
  high : l.next ≤ l.to;
  same : SameOwners l.fn.sole l.sole;
  keys : (q : ℕ) → l.from ≤ q → q < l.next → HasKey l.latest q → HasKey l.sole q;
}

abbrev pub decreases-loop-key : goal.decreases-loop-key
decreases-loop-key l = l.to - l.next
