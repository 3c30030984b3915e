-- One file in memory: its bytes, its length at its last sync, and the ranges that were written since, the latest last.
use Rattle.std.specs.Prelude.{ℕ, List}
use Rattle.udf_outside.specs.declared.memory.range.Range.{Range}

pub record Tracked : Type 0 where
  pub bytes : List ℕ
  pub base : ℕ
  pub ranges : List Range
