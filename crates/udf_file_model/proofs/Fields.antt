-- Numbers that are set one after the other.
use Rattle.std.proofs.Common.{◌≡◌, ℕ, Bool, true, false, cond, ◌+◌, ◌^◌, ◌<◌, ◌≤◌, ◌==◌, ◌&&◌, ◌||◌, nat_le, ◌⊎◌, inl, inr, Option, Some, None, List, [], ◌∷◌, length, arith, sym, ◌∙◌, ap, refl}
use Rattle.std.proofs.lemmas.Bool.Decides.{nat_tests}
use Rattle.udf_model.specs.Bytes.{IsBytes, number_at, with_number}
use Rattle.udf_model.proofs.Written.{number_length, number_back, number_stays, number_is_bytes}
use Rattle.udf_file_model.specs.Wanted.{Field, with_fields}

-- each field lies in the block, and its number fits it
abbrev pub AllFit : ℕ → List Field → Type 0
AllFit size [] = Unit {0}
AllFit size (f ∷ fs) = (f.at + f.width ≤ size) × (f.value < 256 ^ f.width) × AllFit size fs

abbrev pub is_off : ℕ → ℕ → Field → Bool
is_off m from f = nat_le (from + m) f.at || nat_le (f.at + f.width) from

-- the number of m bytes at an offset after the fields are set; none where one of them covers a part of it
abbrev pub read_in : ℕ → ℕ → List Field → ℕ → Option ℕ
read_in m from [] old = Some old
read_in m from (f ∷ fs) old = cond ((f.at == from) && (f.width == m)) (Some f.value) (cond (is_off m from f) (read_in m from fs old) None)

pub fields_length : (fs : List Field) (block : List ℕ) → AllFit (length block) fs → length (with_fields fs block) ≡ length block
unfolding with_fields
fields_length [] block h = refl
fields_length (f ∷ fs) block h =
    let e = fields_length fs block h.2 in
    number_length f.width f.at f.value (with_fields fs block) (omega (arith, e, h.0)) ∙ e

pub fields_are_bytes : (fs : List Field) (block : List ℕ) → IsBytes block → IsBytes (with_fields fs block)
unfolding with_fields
fields_are_bytes [] block h = h
fields_are_bytes (f ∷ fs) block h = number_is_bytes f.width f.at f.value (with_fields fs block) (fields_are_bytes fs block h)

pub fields_read : (fs : List Field) (block : List ℕ) (m from v : ℕ) → AllFit (length block) fs → read_in m from fs (number_at m block from) ≡ Some v
    → number_at m (with_fields fs block) from ≡ v
unfolding with_fields
fields_read [] block m from v h e = some_same e
  where
    some_same : Some (number_at m block from) ≡ Some v → number_at m block from ≡ v
    some_same e = cc
fields_read (f ∷ fs) block m from v h e = choose (f.at == from) (f.width == m) (nat_le (from + m) f.at) (nat_le (f.at + f.width) from) refl refl refl refl e (λ x. fields_read fs block m from v h.2 x)
  where
    inner : List ℕ
    inner = with_fields fs block

    long : length (with_fields fs block) ≡ length block
    long = fields_length fs block h.2

    number : (a b : ℕ) → (a == b) ≡ true → a ≡ b
    number a b t = grind (arith, nat_tests)

    below : (a b : ℕ) → nat_le a b ≡ true → a ≤ b
    below a b t = grind (arith, nat_tests)

    no_some : None ≡ Some v → ⊥
    no_some e = cc

    here : f.at ≡ from → f.width ≡ m → Some f.value ≡ Some v → number_at m (with_number f.width f.at f.value (with_fields fs block)) from ≡ v
    here p q e =
        let same : f.value ≡ v = cc in
        ap (λ k. number_at m (with_number f.width f.at f.value (with_fields fs block)) k) (sym p)
        ∙ ap (λ k. number_at k (with_number f.width f.at f.value (with_fields fs block)) f.at) (sym q)
        ∙ number_back f.width f.at f.value (with_fields fs block) (omega (arith, long, h.0)) h.1
        ∙ same

    away : (from + m ≤ f.at) ⊎ (f.at + f.width ≤ from) → number_at m (with_fields fs block) from ≡ v → number_at m (with_number f.width f.at f.value (with_fields fs block)) from ≡ v
    away o r = number_stays f.width f.at f.value m from (with_fields fs block) (omega (arith, long, h.0)) o ∙ r

    past : (x y : Bool) → nat_le (from + m) f.at ≡ x → nat_le (f.at + f.width) from ≡ y
        → cond (x || y) (read_in m from fs (number_at m block from)) None ≡ Some v
        → (read_in m from fs (number_at m block from) ≡ Some v → number_at m (with_fields fs block) from ≡ v)
        → number_at m (with_number f.width f.at f.value (with_fields fs block)) from ≡ v
    past true y p q e on = away (inl (below (from + m) f.at p)) (on e)
    past false true p q e on = away (inr (below (f.at + f.width) from q)) (on e)
    past false false p q e on = absurd (no_some e)

    choose : (a b x y : Bool) → (f.at == from) ≡ a → (f.width == m) ≡ b → nat_le (from + m) f.at ≡ x → nat_le (f.at + f.width) from ≡ y
        → cond (a && b) (Some f.value) (cond (x || y) (read_in m from fs (number_at m block from)) None) ≡ Some v
        → (read_in m from fs (number_at m block from) ≡ Some v → number_at m (with_fields fs block) from ≡ v)
        → number_at m (with_number f.width f.at f.value (with_fields fs block)) from ≡ v
    choose true true x y p q s t e on = here (number f.at from p) (number f.width m q) e
    choose true false x y p q s t e on = past x y s t e on
    choose false b x y p q s t e on = past x y s t e on

-- each field lies before a place
abbrev pub AllBefore : ℕ → List Field → Type 0
AllBefore end [] = Unit {0}
AllBefore end (f ∷ fs) = (f.at + f.width ≤ end) × AllBefore end fs

pub before_length : (fs : List Field) (block : List ℕ) → AllBefore (length block) fs → length (with_fields fs block) ≡ length block
unfolding with_fields
before_length [] block h = refl
before_length (f ∷ fs) block h =
    let e = before_length fs block h.1 in
    number_length f.width f.at f.value (with_fields fs block) (omega (arith, e, h.0)) ∙ e
