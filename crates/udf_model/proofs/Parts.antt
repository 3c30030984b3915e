-- Parts of lists of bytes, and lists made of such, are lists of bytes.
use Rattle.std.proofs.Common.{ℕ, zero, suc, ◌+◌, List, [], ◌∷◌, ◌++◌, take, drop, lit<}
use Rattle.std.proofs.lemmas.List.{get_or-drop}
use Rattle.udf_model.specs.Bytes.{IsBytes}

pub take_is_bytes : (n : ℕ) (xs : List ℕ) → IsBytes xs → IsBytes (take n xs)
take_is_bytes zero xs h i = lit< tt
take_is_bytes (suc n) [] h i = lit< tt
take_is_bytes (suc n) (x ∷ xs) h zero = h 0
take_is_bytes (suc n) (x ∷ xs) h (suc i) = take_is_bytes n xs (λ k. h (suc k)) i

pub drop_is_bytes : (n : ℕ) (xs : List ℕ) → IsBytes xs → IsBytes (drop n xs)
drop_is_bytes n xs h i = rw (get_or-drop n xs i 0) (h (n + i))

pub append_is_bytes : (xs ys : List ℕ) → IsBytes xs → IsBytes ys → IsBytes (xs ++ ys)
append_is_bytes [] ys h g i = g i
append_is_bytes (x ∷ xs) ys h g zero = h 0
append_is_bytes (x ∷ xs) ys h g (suc i) = append_is_bytes xs ys (λ k. h (suc k)) g i
