-- Which integrity descriptor prevails where blocks of its extent are new.
use Rattle.std.proofs.Common.{◌≡◌, ◌⊎◌, inl, inr, ℕ, zero, suc, ◌+◌, ◌<◌, ◌≤◌, arith, refl, sym, ◌∙◌, ap, List, [], ◌∷◌, Bool, true, false, cond, Some, None}
use Rattle.std.specs.List.{range_with_len, take_while}
use Rattle.std.proofs.lemmas.List.Sums.{take_while-cons}
use Rattle.udf_rules_model.specs.Integrity.{last_of}

last_some : (y : ℕ) (ys : List ℕ) → last_of (y ∷ ys) ≡ None → ⊥
last_some y [] e = cc
last_some y (z ∷ zs) e = last_some z zs e

module _ (p : ℕ → Bool) where
  abbrev pub front : ℕ → ℕ → List ℕ
  front a n = take_while p (range_with_len a n)

  pub front_starts : (a n : ℕ) → p a ≡ true → front a (suc n) ≡ a ∷ front (a + 1) n
  front_starts a n e = take_while-cons p a (range_with_len (a + 1) n) ∙ ap (λ b. cond b (a ∷ front (a + 1) n) []) e

  pub front_ends : (a n : ℕ) → p a ≡ false → front a (suc n) ≡ []
  front_ends a n e = take_while-cons p a (range_with_len (a + 1) n) ∙ ap (λ b. cond b (a ∷ front (a + 1) n) []) e

  -- the last of it is one of the range, and passes
  pub record IsIn (a n x : ℕ) : Type 0 where
    pub from : a ≤ x
    pub below : x < a + n
    pub passes : p x ≡ true

  wider : (a n x : ℕ) → IsIn (a + 1) n x → IsIn a (suc n) x
  wider a n x i = record { from = omega (arith, i.from); below = omega (arith, i.below); passes = i.passes }

  last_more : (a x : ℕ) (xs : List ℕ) → last_of (a ∷ xs) ≡ Some x → ((xs ≡ []) × (a ≡ x)) ⊎ (last_of xs ≡ Some x)
  last_more a x [] e = inl (refl, (let k : a ≡ x = cc in k))
  last_more a x (y ∷ ys) e = inr e

  pub last_in : (a n x : ℕ) → last_of (front a n) ≡ Some x → IsIn a n x
  last_in a zero x e = absurd (no_last e)
    where
      no_last : last_of [] ≡ Some x → ⊥
      no_last e = cc
  last_in a (suc n) x e = by (p a) refl (last_in (a + 1) n x)
    where
      none : last_of [] ≡ Some x → ⊥
      none e = cc

      by : (b : Bool) → p a ≡ b → (last_of (front (a + 1) n) ≡ Some x → IsIn (a + 1) n x) → IsIn a (suc n) x
      by true h on = either (last_more a x (front (a + 1) n) (ap last_of (sym (front_starts a n h)) ∙ e))
        where
          either : ((front (a + 1) n ≡ []) × (a ≡ x)) ⊎ (last_of (front (a + 1) n) ≡ Some x) → IsIn a (suc n) x
          either (inl s) = record { from = omega (arith, s.1); below = omega (arith, s.1); passes = ap p (sym s.1) ∙ h }
          either (inr s) = wider a n x (on s)
      by false h on = absurd (none (ap last_of (sym (front_ends a n h)) ∙ e))

  pub last_none : (a n : ℕ) → last_of (front a (suc n)) ≡ None → p a ≡ false
  last_none a n e = by (p a) refl
    where
      some : (xs : List ℕ) → last_of (a ∷ xs) ≡ None → ⊥
      some xs e = last_some a xs e

      by : (b : Bool) → p a ≡ b → p a ≡ false
      by true h = absurd (some (front (a + 1) n) (ap last_of (sym (front_starts a n h)) ∙ e))
      by false h = h

-- fronts by tests that agree on the range
pub front_same : (p q : ℕ → Bool) (a n : ℕ) → ((x : ℕ) → a ≤ x → x < a + n → q x ≡ p x) → front q a n ≡ front p a n
front_same p q a zero same = refl
front_same p q a (suc n) same =
    take_while-cons q a (range_with_len (a + 1) n)
    ∙ ap (λ b. cond b (a ∷ front q (a + 1) n) []) (same a (omega arith) (omega arith))
    ∙ ap (λ xs. cond (p a) (a ∷ xs) []) (front_same p q (a + 1) n (λ x l h. same x (omega arith) (omega arith)))
    ∙ sym (take_while-cons p a (range_with_len (a + 1) n))
