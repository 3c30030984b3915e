use Rattle.std.proofs.Common.{◌≤◌, ◌-◌, not}
use Rattle.udf_claims.specs.Walks.{AllPassAt}
use Rattle.udf_claims.specs.Winner.{claimed}
use Rattle.udf_claims.proofs.claims.Claims.first_claimed.Given as goal

abbrev pub invariant-loop-next : goal.invariant-loop-next
invariant-loop-next l = record {
  low : l.from ≤ l.next;
  high : l.next ≤ l.to;
  passed : AllPassAt (λ a. not (claimed l.self a)) l.from l.next;
}

abbrev pub decreases-loop-next : goal.decreases-loop-next
decreases-loop-next l = l.to - l.next
