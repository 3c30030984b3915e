-- Chains of stopped repairs.
use Rattle.std.specs.Prelude.{ℕ, Option, List, [], ◌∷◌}
use Rattle.udf_outside.specs.Stops.{Pair}
use Rattle.udf_top.specs.Headline.{IsSafe}

-- each pair is what a stop left of a repair that began with the one before
abbrev pub AreLeft : Option ℕ → Pair → List Pair → Type 0
AreLeft given start [] = Unit {0}
AreLeft given start (pair ∷ rest) = IsSafe given start pair × AreLeft given pair rest

abbrev pub last_of : Pair → List Pair → Pair
last_of start [] = start
last_of start (pair ∷ rest) = last_of pair rest
