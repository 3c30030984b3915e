use Rattle.std.proofs.Common.{◌≡◌, ℕ, ◌≤◌, ◌<◌, ◌-◌, None}
use Rattle.udf_claims.specs.Telling.{by_class}
use Rattle.udf_claims.proofs.pieces.piece_at.Given as goal

abbrev pub invariant-loop-class : goal.invariant-loop-class
invariant-loop-class l = record {
  class : l.next ≤ 256;
  low : l.x < l.end;
  high : l.end ≤ l.to;
  quiet : (c q : ℕ) → c < l.next → l.x ≤ q → q < l.end → by_class l.latest q c ≡ None;
}

abbrev pub decreases-loop-class : goal.decreases-loop-class
decreases-loop-class l = 256 - l.next
