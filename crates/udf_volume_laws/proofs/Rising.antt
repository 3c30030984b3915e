-- Numbers that ascend: the places, what is kept of them, and sorted lists.
use Rattle.std.proofs.Common.{◌≡◌, ◌⊎◌, inl, inr, ℕ, ◌-◌, ◌<◌, ◌≤◌, arith, refl, List, [], ◌∷◌, Bool, true, false, cond, eqb, leb, ltb}
use Rattle.std.specs.List.{filter}
use Rattle.std.proofs.lemmas.Bool.{eqb-false, leb-true, leb-false, ltb-true, ltb-false}
use Rattle.udf_volume_model.specs.Rules.{ascending_places}
use Rattle.udf_volume_model.specs.SparingRule.{inserted, ascending}
use Rattle.udf_volume_laws.proofs.Members.{IsIn, kept_in}

-- numbers ascend, from one on
abbrev pub Climbs : ℕ → List ℕ → Type 0
Climbs from [] = Unit {0}
Climbs from (x ∷ xs) = (from < x) × Climbs x xs

abbrev pub Rises : List ℕ → Type 0
Rises [] = Unit {0}
Rises (x ∷ xs) = Climbs x xs

weaker : (from low : ℕ) (xs : List ℕ) → low ≤ from → Climbs from xs → Climbs low xs
weaker from low [] h c = tt
weaker from low (x ∷ xs) h c = (omega (arith, c.0), c.1)

filter_climbs : (test : ℕ → Bool) (from : ℕ) (xs : List ℕ) → Climbs from xs → Climbs from (filter test xs)
filter_climbs test from [] c = tt
filter_climbs test from (x ∷ xs) c = by_test (filter_climbs test x xs c.1) (test x) where
  by_test : Climbs x (filter test xs) → (b : Bool) → Climbs from (cond b (x ∷ filter test xs) (filter test xs))
  by_test rest true = (c.0, rest)
  by_test rest false = weaker x from (filter test xs) (omega (arith, c.0)) rest

rises_from : (from : ℕ) (xs : List ℕ) → Climbs from xs → Rises xs
rises_from from [] c = tt
rises_from from (x ∷ xs) c = c.1

pub filter_rises : (test : ℕ → Bool) (xs : List ℕ) → Rises xs → Rises (filter test xs)
filter_rises test [] c = tt
filter_rises test (x ∷ xs) c = by_test (filter_climbs test x xs c) (test x) where
  by_test : Climbs x (filter test xs) → (b : Bool) → Rises (cond b (x ∷ filter test xs) (filter test xs))
  by_test rest true = rest
  by_test rest false = rises_from x (filter test xs) rest

pub places_rise : (blocks : ℕ) → Rises (ascending_places blocks)
unfolding ascending_places
places_rise blocks = by_zero (eqb blocks 0) where
  by_fifth : (b : Bool) → eqb blocks 513 ≡ b → 513 ≤ blocks → Rises (cond b (256 ∷ 512 ∷ []) (256 ∷ (blocks - 257) ∷ (blocks - 1) ∷ []))
  by_fifth true e h = (omega arith, tt)
  by_fifth false e h = let no : blocks ≡ 513 → ⊥ = eqb-false _ _ e in (omega arith, (omega arith, tt))

  by_fourth : (b : Bool) → ltb blocks 513 ≡ b → 257 < blocks
      → Rises (cond b ((blocks - 257) ∷ 256 ∷ (blocks - 1) ∷ []) (cond (eqb blocks 513) (256 ∷ 512 ∷ []) (256 ∷ (blocks - 257) ∷ (blocks - 1) ∷ [])))
  by_fourth true e h = let l : blocks < 513 = ltb-true _ _ e in (omega arith, (omega arith, tt))
  by_fourth false e h = by_fifth (eqb blocks 513) refl (ltb-false _ _ e)

  by_third : (b : Bool) → eqb blocks 257 ≡ b → 257 ≤ blocks
      → Rises (cond b (0 ∷ 256 ∷ []) (cond (ltb blocks 513) ((blocks - 257) ∷ 256 ∷ (blocks - 1) ∷ []) (cond (eqb blocks 513) (256 ∷ 512 ∷ []) (256 ∷ (blocks - 257) ∷ (blocks - 1) ∷ []))))
  by_third true e h = (omega arith, tt)
  by_third false e h = let no : blocks ≡ 257 → ⊥ = eqb-false _ _ e in by_fourth (ltb blocks 513) refl (omega arith)

  by_second : (b : Bool) → ltb blocks 257 ≡ b
      → Rises (cond b ((blocks - 1) ∷ []) (cond (eqb blocks 257) (0 ∷ 256 ∷ []) (cond (ltb blocks 513) ((blocks - 257) ∷ 256 ∷ (blocks - 1) ∷ []) (cond (eqb blocks 513) (256 ∷ 512 ∷ []) (256 ∷ (blocks - 257) ∷ (blocks - 1) ∷ [])))))
  by_second true e = tt
  by_second false e = by_third (eqb blocks 257) refl (ltb-false _ _ e)

  by_zero : (b : Bool)
      → Rises (cond b [] (cond (ltb blocks 257) ((blocks - 1) ∷ []) (cond (eqb blocks 257) (0 ∷ 256 ∷ []) (cond (ltb blocks 513) ((blocks - 257) ∷ 256 ∷ (blocks - 1) ∷ []) (cond (eqb blocks 513) (256 ∷ 512 ∷ []) (256 ∷ (blocks - 257) ∷ (blocks - 1) ∷ []))))))
  by_zero true = tt
  by_zero false = by_second (ltb blocks 257) refl

-- no number stands twice
abbrev pub AreDistinct : List ℕ → Type 0
AreDistinct [] = Unit {0}
AreDistinct (x ∷ xs) = (IsIn x xs → ⊥) × AreDistinct xs

pub filter_distinct : (test : ℕ → Bool) (xs : List ℕ) → AreDistinct xs → AreDistinct (filter test xs)
filter_distinct test [] d = tt
filter_distinct test (x ∷ xs) d = by_test (filter_distinct test xs d.1) (test x) where
  by_test : AreDistinct (filter test xs) → (b : Bool) → AreDistinct (cond b (x ∷ filter test xs) (filter test xs))
  by_test rest true = ((λ i. d.0 (kept_in test xs x i).0), rest)
  by_test rest false = rest

inserted_in : (n m : ℕ) (xs : List ℕ) → IsIn n (inserted m xs) → (n ≡ m) ⊎ IsIn n xs
unfolding inserted
inserted_in n m [] (inl i) = inl i
inserted_in n m [] (inr i) = absurd i
inserted_in n m (x ∷ xs) i = by_test (inserted_in n m xs) (leb m x) i where
  further : (n ≡ m) ⊎ IsIn n xs → (n ≡ m) ⊎ IsIn n (x ∷ xs)
  further (inl e) = inl e
  further (inr j) = inr (inr j)

  by_test : (IsIn n (inserted m xs) → (n ≡ m) ⊎ IsIn n xs) → (b : Bool) → IsIn n (cond b (m ∷ x ∷ xs) (x ∷ inserted m xs)) → (n ≡ m) ⊎ IsIn n (x ∷ xs)
  by_test rest true (inl e) = inl e
  by_test rest true (inr j) = inr j
  by_test rest false (inl e) = inr (inl e)
  by_test rest false (inr j) = further (rest j)

ascending_in : (n : ℕ) (xs : List ℕ) → IsIn n (ascending xs) → IsIn n xs
unfolding ascending
ascending_in n [] i = i
ascending_in n (x ∷ xs) i = by_part (ascending_in n xs) (inserted_in n x (ascending xs) i) where
  by_part : (IsIn n (ascending xs) → IsIn n xs) → (n ≡ x) ⊎ IsIn n (ascending xs) → IsIn n (x ∷ xs)
  by_part rest (inl e) = inl e
  by_part rest (inr j) = inr (rest j)

inserted_climbs : (from n : ℕ) (xs : List ℕ) → from < n → (IsIn n xs → ⊥) → Climbs from xs → Climbs from (inserted n xs)
unfolding inserted
inserted_climbs from n [] h new c = (h, tt)
inserted_climbs from n (x ∷ xs) h new c = by_test (inserted_climbs x n xs) (leb n x) refl where
  by_test : (x < n → (IsIn n xs → ⊥) → Climbs x xs → Climbs x (inserted n xs)) → (b : Bool) → leb n x ≡ b
      → Climbs from (cond b (n ∷ x ∷ xs) (x ∷ inserted n xs))
  by_test rest true e =
      let le : n ≤ x = leb-true _ _ e in
      let unlike : n ≡ x → ⊥ = λ same. new (inl same) in
      (h, (omega arith, c.1))
  by_test rest false e = (c.0, rest (leb-false _ _ e) (λ i. new (inr i)) c.1)

inserted_rises : (n : ℕ) (xs : List ℕ) → (IsIn n xs → ⊥) → Rises xs → Rises (inserted n xs)
unfolding inserted
inserted_rises n [] new c = tt
inserted_rises n (x ∷ xs) new c = by_test (leb n x) refl where
  by_test : (b : Bool) → leb n x ≡ b → Rises (cond b (n ∷ x ∷ xs) (x ∷ inserted n xs))
  by_test true e =
      let le : n ≤ x = leb-true _ _ e in
      let unlike : n ≡ x → ⊥ = λ same. new (inl same) in
      (omega arith, c)
  by_test false e = inserted_climbs x n xs (leb-false _ _ e) (λ i. new (inr i)) c

-- a list in which none stands twice ascends when it is sorted
pub ascending_rises : (xs : List ℕ) → AreDistinct xs → Rises (ascending xs)
unfolding ascending
ascending_rises [] d = tt
ascending_rises (x ∷ xs) d = inserted_rises x (ascending xs) (λ i. d.0 (ascending_in x xs i)) (ascending_rises xs d.1)

inserted_some : (n : ℕ) (xs : List ℕ) → inserted n xs ≡ [] → ⊥
unfolding inserted
inserted_some n [] e = absurd (cc)
inserted_some n (x ∷ xs) e = by_test (leb n x) e where
  by_test : (b : Bool) → cond b (n ∷ x ∷ xs) (x ∷ inserted n xs) ≡ [] → ⊥
  by_test true f = absurd (cc)
  by_test false f = absurd (cc)

pub ascending_none : (xs : List ℕ) → ascending xs ≡ [] → xs ≡ []
unfolding ascending
ascending_none [] e = e
ascending_none (x ∷ xs) e = absurd (inserted_some x (ascending xs) e)
