-- What a bench in memory holds after it stopped and was begun again.
use Rattle.std.specs.Prelude.{◌≡◌, ℕ, ◌<◌, Bool, true, false, List, length, slice_index, Option, Some, None}
use Rattle.udf_outside.specs.declared.bench.Role.{Role}
use Rattle.udf_outside.specs.declared.bench.Role.TheVariants.{Image, Side}
use Rattle.udf_outside.specs.declared.memory.range.Range.{Range}
use Rattle.udf_outside.specs.declared.memory.script.Spared.{Spared}
use Rattle.udf_outside.specs.Stops.{is_within}

abbrev pub range_of : Role → Role → Range → Option Range
range_of Image Image range = Some range
range_of Side Side range = Some range
range_of Image Side range = None
range_of Side Image range = None

-- what the stopped call wrote of a role
abbrev pub spared_range : Role → Option Spared → Option Range
spared_range role None = None
spared_range role (Some spared) = range_of role spared.role spared.range

abbrev pub is_spared : Option Range → ℕ → Bool
is_spared None i = false
is_spared (Some range) i = is_within range.at range.len i

-- one byte at each pending offset that is not spared, the same bytes elsewhere, and the same length
pub record Refills (fill : ℕ) (pending spared : ℕ → Bool) (old new : List ℕ) : Type 0 where
  pub size : length new ≡ length old
  pub filled : (i : ℕ) → i < length old → pending i ≡ true → spared i ≡ false → slice_index new i ≡ fill
  pub spares : (i : ℕ) → spared i ≡ true → slice_index new i ≡ slice_index old i
  pub same : (i : ℕ) → pending i ≡ false → slice_index new i ≡ slice_index old i
