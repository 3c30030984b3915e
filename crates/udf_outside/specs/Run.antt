-- A run of calls: what the stops since its start leave, and what a stop right now does.
use Rattle.udf_outside.specs.Stops.{Held, Pair, Now, LeavesOnly}

-- each pair that a stop might have left since the start has P, and each that a stop now may leave has Q
pub record Runs (start end : Held) (P Q : Pair → Type 0) : Type 0 where
  pub leaves : LeavesOnly start end P
  pub ends : (pair : Pair) → Now end pair → Q pair
