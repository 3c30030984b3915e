-- What `integrity_of` answers.
use Rattle.std.specs.Prelude.{◌≡◌, ℕ, true, false, List, Option, Result, Ok, Err}
use Rattle.udf_field.specs.declared.address.Span.{Span}
use Rattle.udf_layer.specs.declared.missing.Missing.TheVariants as missing
use Rattle.udf_layer.specs.declared.missing.ProfileItem.TheVariants as item
use Rattle.udf_layer.specs.declared.missing.LayerStop.{LayerStop}
use Rattle.udf_layer.specs.declared.missing.LayerStop.TheVariants as stops
use Rattle.udf_rules_model.specs.Integrity.{names_chain, prevailing_integrity}

-- the prevailing descriptor, or that it names a further extent, unless a fault came
abbrev pub FindsIntegrity : ℕ → (ℕ → List ℕ) → Span → Result (Option ℕ) LayerStop → Type 0
FindsIntegrity size disk extent (Ok found) = (names_chain size disk extent ≡ false) × (found ≡ prevailing_integrity size disk extent)
FindsIntegrity size disk extent (Err (stops.Missing reason)) = names_chain size disk extent ≡ true
FindsIntegrity size disk extent (Err stops.Fault) = Unit {0}
FindsIntegrity size disk extent (Err stops.Memory) = Unit {0}

-- the one refusal of a volume for its integrity sequence, or a fault, also over a bench that tells nothing
abbrev pub RefusesIntegrity : LayerStop → Type 0
RefusesIntegrity (stops.Missing reason) = reason ≡ missing.Profile item.IntegrityChain
RefusesIntegrity stops.Fault = Unit {0}
RefusesIntegrity stops.Memory = ⊥
