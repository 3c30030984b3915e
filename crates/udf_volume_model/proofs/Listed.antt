-- A list is its front, where no block spoils it.
use Rattle.std.proofs.Common.{◌≡◌, refl, ◌∙◌, ap, List, [], ◌∷◌, Bool, true, false, cond, Some, None}
use Rattle.std.specs.Prelude.{option_map, if◌then◌else◌}
use Rattle.udf_volume_model.specs.Sequence.{View, End, Spoiled, Listed, listed, front_of, is_spoilt}

pub listed_is : (list : List View) → listed list ≡ (if is_spoilt list then None else Some (front_of list))
unfolding listed front_of is_spoilt
listed_is [] = refl
listed_is (End ∷ rest) = refl
listed_is (Spoiled ∷ rest) = refl
listed_is (Listed d ∷ rest) = ap (option_map (λ others. d ∷ others)) (listed_is rest) ∙ by_spoilt (is_spoilt rest) where
  by_spoilt : (b : Bool) → option_map (λ others. d ∷ others) (cond b None (Some (front_of rest))) ≡ cond b None (Some (d ∷ front_of rest))
  by_spoilt true = refl
  by_spoilt false = refl
