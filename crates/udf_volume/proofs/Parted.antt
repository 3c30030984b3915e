-- Lists that a test parts.
use Rattle.std.proofs.Common.{◌≡◌, ℕ, suc, ◌+◌, arith, refl, List, [], ◌∷◌, length, Bool, true, false, cond, not, ◌&&◌, eqb}
use Rattle.std.specs.List.{list_all, filter}

-- a test parts a list in two
pub parted : (test : ℕ → Bool) (xs : List ℕ) → length (filter test xs) + length (filter (λ x. not (test x)) xs) ≡ length xs
parted test [] = refl
parted test (x ∷ xs) = by_test (test x) (parted test xs) where
  by_test : (b : Bool) → length (filter test xs) + length (filter (λ x. not (test x)) xs) ≡ length xs
      → length (cond b (x ∷ filter test xs) (filter test xs)) + length (cond (not b) (x ∷ filter (λ x. not (test x)) xs) (filter (λ x. not (test x)) xs)) ≡ suc (length xs)
  by_test true e = omega (arith, e)
  by_test false e = omega (arith, e)

-- a test fails for none exactly where it passes for all
pub none_fails : (test : ℕ → Bool) (xs : List ℕ) → list_all test xs ≡ eqb (length (filter (λ x. not (test x)) xs)) 0
none_fails test [] = refl
none_fails test (x ∷ xs) = by_test (test x) (none_fails test xs) where
  by_test : (b : Bool) → list_all test xs ≡ eqb (length (filter (λ x. not (test x)) xs)) 0
      → (b && list_all test xs) ≡ eqb (length (cond (not b) (x ∷ filter (λ x. not (test x)) xs) (filter (λ x. not (test x)) xs))) 0
  by_test true e = e
  by_test false e = grind arith
