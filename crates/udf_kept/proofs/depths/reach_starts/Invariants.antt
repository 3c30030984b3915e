use Rattle.std.proofs.Common.{[], ℕ, List, Option, take}
use Rattle.udf_kept.specs.Depths.{IsReached, starts_in}
use Rattle.udf_kept.proofs.depths.reach_starts.Given as goal

abbrev pub invariant-loop-entry : goal.invariant-loop-entry
invariant-loop-entry l = (old : List (Option ℕ)) → IsReached old [] 0 l.initial.depths l.initial.layer.items → IsReached old (starts_in (take l.entry l.starts)) 0 l.depths l.layer.items
