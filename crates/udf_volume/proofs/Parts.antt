-- Some of a list's numbers, in their order.
use Rattle.std.proofs.Common.{◌≡◌, inl, inr, ℕ, ◌+◌, ◌<◌, ◌≤◌, arith, refl, sym, subst, ◌∙◌, ap, List, [], ◌∷◌, ◌++◌, length, take, get_or, Bool, true, false, cond, ltb}
use Rattle.std.specs.List.{All, list_all, filter}
use Rattle.std.proofs.lemmas.Bool.{and_parts, and_from, lt-ltb, ltb-true}
use Rattle.std.proofs.lemmas.List.{take_more}
use Rattle.std.proofs.lemmas.List.Sums.{list_all-from_AllPass, AllPass-from_list_all}
use Rattle.udf_volume.specs.Verdicts.{IsPart}

wider : (part whole more : List ℕ) → IsPart part whole → IsPart part (whole ++ more)
wider [] whole more p = tt
wider (n ∷ part) [] more p = absurd p
wider (n ∷ part) (m ∷ whole) more (inl e) = inl (e.0, wider part whole more e.1)
wider (n ∷ part) (m ∷ whole) more (inr p) = inr (wider (n ∷ part) whole more p)

both : (part whole : List ℕ) (next : ℕ) → IsPart part whole → IsPart (part ++ next ∷ []) (whole ++ next ∷ [])
both [] [] next p = inl (refl, tt)
both [] (m ∷ whole) next p = inr (both [] whole next tt)
both (n ∷ part) [] next p = absurd p
both (n ∷ part) (m ∷ whole) next (inl e) = inl (e.0, both part whole next e.1)
both (n ∷ part) (m ∷ whole) next (inr p) = inr (both (n ∷ part) whole next p)

-- along a list: the next number is left out, or taken
pub part_passed : (part places : List ℕ) (i : ℕ) → i < length places → IsPart part (take i places) → IsPart part (take (i + 1) places)
part_passed part places i lt p =
    let P : List ℕ → Type 0 = λ whole. IsPart part whole in
    subst P (sym (take_more places i 0 lt)) (wider part (take i places) (get_or places i 0 ∷ []) p)

pub part_pushed : (part places : List ℕ) (i : ℕ) → i < length places → IsPart part (take i places)
    → IsPart (part ++ get_or places i 0 ∷ []) (take (i + 1) places)
part_pushed part places i lt p =
    let P : List ℕ → Type 0 = λ whole. IsPart (part ++ get_or places i 0 ∷ []) whole in
    subst P (sym (take_more places i 0 lt)) (both part (take i places) (get_or places i 0) p)

-- those that pass a test, along a list
filter_more : (test : ℕ → Bool) (xs : List ℕ) (n : ℕ) → filter test (xs ++ n ∷ []) ≡ filter test xs ++ cond (test n) (n ∷ []) []
filter_more test [] n = refl
filter_more test (x ∷ xs) n = by_test (test x) (filter_more test xs n) where
  by_test : (b : Bool) → filter test (xs ++ n ∷ []) ≡ filter test xs ++ cond (test n) (n ∷ []) []
      → cond b (x ∷ filter test (xs ++ n ∷ [])) (filter test (xs ++ n ∷ [])) ≡ cond b (x ∷ filter test xs) (filter test xs) ++ cond (test n) (n ∷ []) []
  by_test true e = ap (λ l. x ∷ l) e
  by_test false e = e

pub filter_next : (test : ℕ → Bool) (bad places : List ℕ) (i : ℕ) (b : Bool) → i < length places → test (get_or places i 0) ≡ b → bad ≡ filter test (take i places)
    → bad ++ cond b (get_or places i 0 ∷ []) [] ≡ filter test (take (i + 1) places)
filter_next test bad places i b lt t is =
    ap (λ l. l ++ cond b (get_or places i 0 ∷ []) []) is
    ∙ ap (λ x. filter test (take i places) ++ cond x (get_or places i 0 ∷ []) []) (sym t)
    ∙ sym (filter_more test (take i places) (get_or places i 0))
    ∙ ap (filter test) (sym (take_more places i 0 lt))

-- what a part has of the whole
pub shorter : (part whole : List ℕ) → IsPart part whole → length part ≤ length whole
shorter [] whole p = omega arith
shorter (n ∷ part) [] p = absurd p
shorter (n ∷ part) (m ∷ whole) (inl e) = omega (arith, shorter part whole e.1)
shorter (n ∷ part) (m ∷ whole) (inr p) = omega (arith, shorter (n ∷ part) whole p)

pub all_of_part : (test : ℕ → Bool) (part whole : List ℕ) → IsPart part whole → list_all test whole ≡ true → list_all test part ≡ true
all_of_part test [] whole p e = refl
all_of_part test (n ∷ part) [] p e = absurd p
all_of_part test (n ∷ part) (m ∷ whole) (inl q) e =
    let parts = and_parts (test m) (list_all test whole) e in
    and_from _ _ (ap test q.0 ∙ parts.0) (all_of_part test part whole q.1 parts.1)
all_of_part test (n ∷ part) (m ∷ whole) (inr p) e = all_of_part test (n ∷ part) whole p (and_parts (test m) (list_all test whole) e).1

pub below_of_part : (top : ℕ) (part whole : List ℕ) → IsPart part whole → All (λ at. at < top) whole → All (λ at. at < top) part
below_of_part top part whole p all =
    let tested : list_all (λ n. ltb n top) part ≡ true = all_of_part (λ n. ltb n top) part whole p
    (list_all-from_AllPass (λ n. ltb n top) whole (λ k d lt. lt-ltb _ _ (all k d lt))) in
    λ k d lt. ltb-true _ _ (AllPass-from_list_all (λ n. ltb n top) part tested k d lt)
