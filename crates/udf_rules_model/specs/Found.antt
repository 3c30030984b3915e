-- What is found at an address where a rule is broken.
use Rattle.std.specs.Prelude.{ℕ, Bool, true, false, if◌then◌else◌, List, [], ◌∷◌}
use Rattle.udf_field.specs.declared.address.Addr.{Addr}
use Rattle.udf_volume_model.specs.Rules.{Finding, At}

-- by the number of the rule, the address and two values
abbrev pub found_at : ℕ → Addr → ℕ → ℕ → Finding
found_at rule a first second = record { rule = rule; place = At a.part a.block; first = first; second = second }

-- nothing where something holds, else this
abbrev pub unless : Bool → Finding → List Finding
unless holds finding = if holds then [] else finding ∷ []

-- a list of no items
abbrev pub is_nothing : {A : Type 0} → List A → Bool
is_nothing [] = true
is_nothing (x ∷ rest) = false
