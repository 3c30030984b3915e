-- The tables that a sparable map lists.
use Rattle.std.proofs.Common.{◌≡◌, ℕ, zero, suc, ◌≤◌, arith, refl, List, [], ◌∷◌, length, take, map, min}
use Rattle.std.specs.Prelude.{slice_index}
use Rattle.std.specs.List.{range_with_len}

of_four : (a b c d n : ℕ) → n ≤ 4 → take n (a ∷ b ∷ c ∷ d ∷ []) ≡ map (slice_index (a ∷ b ∷ c ∷ d ∷ [])) (range_with_len 0 n)
of_four a b c d zero h = refl
of_four a b c d (suc zero) h = refl
of_four a b c d (suc (suc zero)) h = refl
of_four a b c d (suc (suc (suc zero))) h = refl
of_four a b c d (suc (suc (suc (suc zero)))) h = refl
of_four a b c d (suc (suc (suc (suc (suc n))))) h = absurd (omega arith)

by_length : (at : List ℕ) (n : ℕ) → length at ≡ 4 → n ≤ 4 → take n at ≡ map (slice_index at) (range_with_len 0 n)
by_length [] n l h = absurd (omega arith)
by_length (a ∷ []) n l h = absurd (omega arith)
by_length (a ∷ b ∷ []) n l h = absurd (omega arith)
by_length (a ∷ b ∷ c ∷ []) n l h = absurd (omega arith)
by_length (a ∷ b ∷ c ∷ d ∷ []) n l h = of_four a b c d n h
by_length (a ∷ b ∷ c ∷ d ∷ e ∷ rest) n l h = absurd (omega arith)

pub listed : (at : List ℕ) (count : ℕ) → length at ≡ 4 → take (min count 4) at ≡ map (slice_index at) (range_with_len 0 (min count 4))
listed at count l = by_length at (min count 4) l (omega arith)
