use Rattle.std.proofs.Common.{◌≤◌, ◌-◌}
use Rattle.udf_claims.specs.Walks.{AllPassAt}
use Rattle.udf_claims.specs.Winner.{claimed}
use Rattle.udf_claims.proofs.claims.Claims.first_free.Given as goal

abbrev pub invariant-loop-next : goal.invariant-loop-next
invariant-loop-next l = record {
  low : l.from ≤ l.next;
  high : l.next ≤ l.to;
  passed : AllPassAt (claimed l.self) l.from l.next;
}

abbrev pub decreases-loop-next : goal.decreases-loop-next
decreases-loop-next l = l.to - l.next
