-- Calls and puts in memory are numbered from 1; after the last value of u64 each later one bears that number.
use Rattle.std.specs.Prelude.{◌≡◌, ◌⊎◌, ℕ, false, ◌+◌, ◌-◌, ◌^◌, min, Result, OnOk, OnErr, is_ok}
use Rattle.udf_outside.specs.Causes.{Rose}

abbrev pub next_number : ℕ → ℕ
next_number calls = min (calls + 1) (2 ^ 64 - 1)

-- A numbered call fails where it is due to, and else only where it found no memory: `wants` counts such calls.
pub record FailsExactly {T E : Type 0} (due : Type 0) (before now : ℕ) (result : Result T E) : Type 0 where
  pub fails : due → is_ok result ≡ false
  pub wanted : OnErr result (due ⊎ Rose before now)
  pub calm : OnOk result (now ≡ before)
