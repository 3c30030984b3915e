-- Nothing is found exactly where all holds.
use Rattle.std.proofs.Common.{◌≡◌, ℕ, Bool, true, false, not, cond, ◌&&◌, List, [], ◌∷◌, ◌++◌, length, map, refl, sym, ap, ◌∙◌, Option, Some, None}
use Rattle.std.specs.Prelude.{◌==◌, ◌||◌, nat_lt}
use Rattle.std.specs.List.{filter, flat_map, list_all}
use Rattle.udf_volume_model.specs.Rules.{Finding}
use Rattle.udf_rules_model.specs.Found.{is_nothing, unless}
use Rattle.udf_rules_model.specs.FileRules.{with_pointer, with_pointers}

pub unless_nil : (b : Bool) (x : Finding) → is_nothing (unless b x) ≡ b
unless_nil true x = refl
unless_nil false x = refl

pub append_nil : {A : Type 0} (xs ys : List A) → is_nothing (xs ++ ys) ≡ (is_nothing xs && is_nothing ys)
append_nil [] ys = refl
append_nil (x ∷ xs) ys = refl

pub map_nil : {A B : Type 0} (g : A → B) (xs : List A) → is_nothing (map g xs) ≡ is_nothing xs
map_nil g [] = refl
map_nil g (x ∷ xs) = refl

pub flat_map_nil : {A B : Type 0} (g : A → List B) (p : A → Bool) → ((a : A) → is_nothing (g a) ≡ p a) → (xs : List A) → is_nothing (flat_map g xs) ≡ list_all p xs
flat_map_nil g p h [] = refl
flat_map_nil g p h (x ∷ xs) =
    append_nil (g x) (flat_map g xs) ∙ ap (λ b. b && is_nothing (flat_map g xs)) (h x) ∙ ap (λ b. p x && b) (flat_map_nil g p h xs)

-- what fails a test is nothing exactly where all pass another one that is its opposite
pub filter_nil : {A : Type 0} (q p : A → Bool) → ((a : A) → not (q a) ≡ p a) → (xs : List A) → is_nothing (filter q xs) ≡ list_all p xs
filter_nil q p h [] = refl
filter_nil q p h (x ∷ xs) = by (filter_nil q p h xs) (q x) refl
  where
    by : is_nothing (filter q xs) ≡ list_all p xs → (b : Bool) → b ≡ q x → is_nothing (cond b (x ∷ filter q xs) (filter q xs)) ≡ (p x && list_all p xs)
    by rec true e = ap (λ c. c && list_all p xs) (ap not e ∙ h x)
    by rec false e = rec ∙ ap (λ c. c && list_all p xs) (ap not e ∙ h x)

pub pointers_nil : (ps fs : List Finding) → is_nothing (with_pointers ps fs) ≡ (is_nothing ps && is_nothing fs)
pointers_nil [] fs = refl
pointers_nil (p ∷ ps) [] = refl
pointers_nil (p ∷ ps) (f ∷ fs) = by ((f.first == 0) && nat_lt f.second p.second)
  where
    by : (b : Bool) → is_nothing (cond b (f ∷ p ∷ fs) (p ∷ f ∷ fs)) ≡ false
    by true = refl
    by false = refl

-- the opposites of tests of links
pub neither : (a b : Bool) → not (not a && not b) ≡ (a || b)
neither true true = refl
neither true false = refl
neither false true = refl
neither false false = refl

pub unless_both : (a b : Bool) → not (a && not b) ≡ (not a || b)
unless_both true true = refl
unless_both true false = refl
unless_both false true = refl
unless_both false false = refl

pub commute : (a b : Bool) → (a && b) ≡ (b && a)
commute true true = refl
commute true false = refl
commute false true = refl
commute false false = refl
