-- Ranges of a file that were written since its last sync.
use Rattle.std.specs.Prelude.{ℕ, Bool, false, ◌||◌, List, [], ◌∷◌}
use Rattle.udf_outside.specs.Stops.{is_within}
use Rattle.udf_outside.specs.declared.memory.range.Range.{Range}

-- one of the ranges has this offset
abbrev pub covers : List Range → ℕ → Bool
covers [] i = false
covers (range ∷ ranges) i = is_within range.at range.len i || covers ranges i
