-- The numbers from one on that pass a test, before the first that does not.
use Rattle.std.proofs.Common.{◌≡◌, ℕ, zero, suc, ◌+◌, ◌<◌, arith, refl, sym, ap, ◌∙◌, subst, List, [], ◌∷◌, length, Bool, true, false, cond}
use Rattle.std.specs.List.{range_with_len, take_while}
use Rattle.std.proofs.lemmas.List.Sums.{take_while-cons}

module _ (p : ℕ → Bool) where
  abbrev front : ℕ → ℕ → List ℕ
  front a n = take_while p (range_with_len a n)

  first_passes : (a n : ℕ) → p (a + 0) ≡ true → front a (suc n) ≡ a ∷ front (a + 1) n
  first_passes a n e =
      let same : a ≡ a + 0 = omega arith in
      take_while-cons p a (range_with_len (a + 1) n) ∙ ap (λ b. cond b (a ∷ front (a + 1) n) []) (ap p same ∙ e)

  first_fails : (a n : ℕ) → p (a + 0) ≡ false → front a (suc n) ≡ []
  first_fails a n e =
      let same : a ≡ a + 0 = omega arith in
      take_while-cons p a (range_with_len (a + 1) n) ∙ ap (λ b. cond b (a ∷ front (a + 1) n) []) (ap p same ∙ e)

  moved : (a k : ℕ) (b : Bool) → p (a + suc k) ≡ b → p (a + 1 + k) ≡ b
  moved a k b e = let same : a + 1 + k ≡ a + suc k = omega arith in ap p same ∙ e

  -- it ends before the first that fails
  pub front_stops : (a n i : ℕ) → ((k : ℕ) → k < i → p (a + k) ≡ true) → i < n → p (a + i) ≡ false → front a n ≡ range_with_len a i
  front_stops a zero i all l e = absurd (omega arith)
  front_stops a (suc n) zero all l e = first_fails a n e
  front_stops a (suc n) (suc i) all l e =
      first_passes a n (all 0 (omega arith))
      ∙ ap (λ r. a ∷ r) (front_stops (a + 1) n i (λ k h. moved a k true (all (suc k) (omega arith))) (omega arith) (moved a i false e))

  -- and has all where none fails
  pub front_ends : (a n : ℕ) → ((k : ℕ) → k < n → p (a + k) ≡ true) → front a n ≡ range_with_len a n
  front_ends a zero all = refl
  front_ends a (suc n) all =
      first_passes a n (all 0 (omega arith)) ∙ ap (λ r. a ∷ r) (front_ends (a + 1) n (λ k h. moved a k true (all (suc k) (omega arith))))

  -- its numbers follow one another
  pub front_run : (a n : ℕ) → front a n ≡ range_with_len a (length (front a n))
  front_run a zero = refl
  front_run a (suc n) = subst (λ (l : List ℕ). l ≡ range_with_len a (length l)) (sym (take_while-cons p a (range_with_len (a + 1) n))) (by (front_run (a + 1) n) (p a))
    where
      by : front (a + 1) n ≡ range_with_len (a + 1) (length (front (a + 1) n)) → (b : Bool) → cond b (a ∷ front (a + 1) n) [] ≡ range_with_len a (length (cond b (a ∷ front (a + 1) n) []))
      by rest true = ap (λ r. a ∷ r) rest
      by rest false = refl
