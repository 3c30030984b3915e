-- Runs of numbers that a set or a list has are no longer than it.
use Rattle.std.proofs.Common.{◌≡◌, ◌⊎◌, ℕ, zero, suc, ◌+◌, ◌<◌, ◌≤◌, List, [], ◌∷◌, ◌++◌, length, Bool, true, ◌||◌, eqb, refl, sym, ap, ◌∙◌, inl, inr, arith}
use Rattle.std.specs.List.{list_any}
use Rattle.std.specs.Ordering.{nat_cmp}
use Rattle.std.specs.BTreeMap.{is_at}
use Rattle.std.proofs.lemmas.Bool.{or_left, or_right, cases_lt}
use Rattle.std.proofs.lemmas.Bool.Decides.{nat_tests}
use Rattle.std.proofs.lemmas.Grind.{common_steps}
use Rattle.std.proofs.lemmas.List.{length-append}
use Rattle.std.proofs.lemmas.List.Folds.{list_any-append}
use Rattle.std.proofs.lemmas.Map.Steps.{le-length_from_below}

below : ℕ → List ℕ
below zero = []
below (suc n) = n ∷ below n

length_below : (n : ℕ) → length (below n) ≡ n
unfolding below
length_below zero = refl
length_below (suc n) = ap suc (length_below n)

any_below : (n q : ℕ) → q < n → list_any (eqb q) (below n) ≡ true
unfolding below
any_below zero q l = absurd (omega arith)
any_below (suc n) q l = go (λ k. any_below n q k) (cases_lt q n)
  where
    go : (q < n → list_any (eqb q) (below n) ≡ true) → (q < n) ⊎ (n ≤ q) → list_any (eqb q) (n ∷ below n) ≡ true
    go ih (inl k) = or_right (eqb q n) _ (ih k)
    go ih (inr k) = or_left (eqb q n) _ (grind (arith, nat_tests))

run_fits : (xs : List ℕ) (a n : ℕ) → a ≤ n → ((q : ℕ) → a ≤ q → q < n → list_any (eqb q) xs ≡ true) → n ≤ a + length xs
run_fits xs a n l h = let m = le-length_from_below (below a ++ xs) n all in let k = length-append (below a) xs in let j = length_below a in omega arith
  where
    all : (q : ℕ) → q < n → list_any (eqb q) (below a ++ xs) ≡ true
    all q k = list_any-append (eqb q) (below a) xs ∙ go (cases_lt q a)
      where
        go : (q < a) ⊎ (a ≤ q) → (list_any (eqb q) (below a) || list_any (eqb q) xs) ≡ true
        go (inl i) = or_left (list_any (eqb q) (below a)) _ (any_below a q i)
        go (inr i) = or_right (list_any (eqb q) (below a)) _ (h q i k)

-- a set's keys, by the set's test
pub run_in_set : (keys : List ℕ) (a n : ℕ) → a ≤ n → ((q : ℕ) → a ≤ q → q < n → list_any (is_at (nat_cmp q)) keys ≡ true) → n ≤ a + length keys
run_in_set keys a n l h = run_fits keys a n l (λ q j k. sym (same q keys) ∙ h q j k)
  where
    here : (q x : ℕ) → is_at (nat_cmp q) x ≡ eqb q x
    here q x = grind (arith, common_steps)

    same : (q : ℕ) (xs : List ℕ) → list_any (is_at (nat_cmp q)) xs ≡ list_any (eqb q) xs
    same q [] = refl
    same q (x ∷ xs) = ap (λ b. b || list_any (is_at (nat_cmp q)) xs) (here q x) ∙ ap (λ b. eqb q x || b) (same q xs)

pub one_further : (kept : ℕ → Bool) (a n : ℕ) → kept n ≡ true → ((m : ℕ) → a ≤ m → m < n → kept m ≡ true) → (m : ℕ) → a ≤ m → m < n + 1 → kept m ≡ true
one_further kept a n e h m l k = go (cases_lt m n)
  where
    go : (m < n) ⊎ (n ≤ m) → kept m ≡ true
    go (inl j) = h m l j
    go (inr j) = let same : m ≡ n = omega arith in ap kept same ∙ e
