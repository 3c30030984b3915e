-- What is read within a list.
use Rattle.std.proofs.Common.{◌≡◌, ℕ, zero, suc, ◌<◌, List, [], ◌∷◌, length, get_or, refl, arith}

-- within a list what is read does not depend on what is read past its end
pub read_at : {X : Type 0} (xs : List X) (i : ℕ) (d e : X) → i < length xs → get_or xs i d ≡ get_or xs i e
read_at [] i d e l = absurd (omega (arith, l))
read_at (x ∷ xs) zero d e l = refl
read_at (x ∷ xs) (suc i) d e l = read_at xs i d e (omega (arith, l))
