-- The best descriptor of a kind and subject in the front of a list, and maps that have the best of each.
use Rattle.std.specs.Prelude.{◌≡◌, ℕ, ◌<◌, ◌≤◌, List, ◌∷◌, Option, Some, None, false, true, slice_get}
use Rattle.std.specs.Ordering.{nat_cmp}
use Rattle.std.specs.Cmp.Lexicographic.{slice_cmp}
use Rattle.std.specs.BTreeMap.{BTreeMap, get}
use Rattle.udf_volume_model.specs.Sequence.{Descriptor}
use Rattle.udf_volume_model.specs.Prevailing.{number_of, is_of}

-- among the first i descriptors the one at this index is the highest, and the earliest of equals
pub record BestAt (kind : ℕ) (subject : List ℕ) (list : List Descriptor) (i best : ℕ) (descriptor : Descriptor) : Type 0 where
  pub within : best < i
  pub stands : slice_get list best ≡ Some descriptor
  pub of : is_of kind subject descriptor ≡ true
  pub highest : (k : ℕ) (other : Descriptor) → k < i → slice_get list k ≡ Some other → is_of kind subject other ≡ true
      → number_of other ≤ number_of descriptor
  pub earliest : (k : ℕ) (other : Descriptor) → k < best → slice_get list k ≡ Some other → is_of kind subject other ≡ true
      → number_of other < number_of descriptor

abbrev pub IsBest : ℕ → List ℕ → List Descriptor → ℕ → Option ℕ → Type 0
IsBest kind subject list i None = (k : ℕ) (other : Descriptor) → k < i → slice_get list k ≡ Some other → is_of kind subject other ≡ false
IsBest kind subject list i (Some best) = (descriptor : Descriptor) × BestAt kind subject list i best descriptor

-- a map from the kind and subject of descriptors to indexes
abbrev pub Indexes : Type 0
Indexes = BTreeMap (List ℕ) ℕ

-- of each kind and subject the map has the best among the first i descriptors
unfoldable pub AreBest : List Descriptor → ℕ → Indexes → Type 0
AreBest list i map = (kind : ℕ) (subject : List ℕ) → IsBest kind subject list i (get (slice_cmp nat_cmp) map (kind ∷ subject))
