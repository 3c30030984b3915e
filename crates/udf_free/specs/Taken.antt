-- Which blocks of the base partition are claimed, by the runs of claims.
use Rattle.std.specs.Prelude.{◌≡◌, ℕ, ◌+◌, ◌<◌, ◌≤◌, Bool, true, false, not, List, map}
use Rattle.std.specs.List.{range_with_len}
use Rattle.udf_claims.specs.Winner.{claimed}
use Rattle.udf_claims.specs.declared.run.Run.{Run}
use Rattle.udf_file_model.specs.Address.{addr}
use Rattle.udf_free.specs.declared.taken.Taken.{Taken}

-- of each of so many blocks whether it is not claimed
unfoldable pub untaken : List Run → ℕ → List Bool
untaken rs blocks = map (λ n. not (claimed rs (addr 0 n))) (range_with_len 0 blocks)

-- no block from one on, below another, is claimed
pub record NoneTaken (rs : List Run) (from end : ℕ) : Type 0 where
  pub none : (n : ℕ) → from ≤ n → n < end → claimed rs (addr 0 n) ≡ false

-- the first claimed blocks from one on, of so many
pub record IsNextTaken (rs : List Run) (from blocks : ℕ) (next : Taken) : Type 0 where
  pub after : from ≤ next.start
  pub some : 0 < next.blocks
  pub within : next.start + next.blocks ≤ blocks
  pub before : (n : ℕ) → from ≤ n → n < next.start → claimed rs (addr 0 n) ≡ false
  pub taken : (n : ℕ) → next.start ≤ n → n < next.start + next.blocks → claimed rs (addr 0 n) ≡ true
