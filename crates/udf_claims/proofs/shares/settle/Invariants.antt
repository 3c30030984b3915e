use Rattle.std.proofs.Common.{◌≤◌, ◌-◌}
use Rattle.udf_claims.specs.Shares.{sole_after}
use Rattle.udf_claims.specs.Standing.{owner_at, HasKey, SetsOwners, SharesKeys}
use Rattle.udf_claims.proofs.shares.settle.Given as goal

abbrev pub invariant-loop-next : goal.invariant-loop-next
invariant-loop-next l = record {
  low : l.from ≤ l.next;
  high : l.next ≤ l.to;
  here : HasKey l.latest l.next;
  keys : SharesKeys l.latest l.sole l.next l.to;
  passed : SetsOwners l.fn.sole l.sole l.from l.next (λ q. sole_after l.owner (owner_at l.latest q) (owner_at l.fn.sole q));
}

abbrev pub decreases-loop-next : goal.decreases-loop-next
decreases-loop-next l = l.to - l.next
