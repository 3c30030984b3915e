-- Wanted blocks that are put where others stand.
use Rattle.std.proofs.Common.{◌≡◌, ℕ, List, [], ◌∷◌, ◌++◌, true, false, cond, not, sym, ap, subst}
use Rattle.std.specs.Str.{bytes_eq}
use Rattle.udf_wanted.specs.Wanted.{LookAlike, differing}
use Rattle.udf_wanted.proofs.Looking.{nothing}

-- a block that is the same is none
pub none_differs : (sector : ℕ) (now after : List ℕ) → bytes_eq now after ≡ true → [] ≡ differing (λ _. now) ((sector, after) ∷ [])
unfolding differing
none_differs sector now after e = sym (ap (λ b. cond (not b) ((sector, after) ∷ []) []) e)

pub one_differs : (sector : ℕ) (now after : List ℕ) → bytes_eq now after ≡ false → (sector, after) ∷ [] ≡ differing (λ _. now) ((sector, after) ∷ [])
unfolding differing
one_differs sector now after e = sym (ap (λ b. cond (not b) ((sector, after) ∷ []) []) e)

-- what was put, said otherwise
pub look_as : (new old some more : List (ℕ × List ℕ)) → LookAlike new (old ++ some) → some ≡ more → LookAlike new (old ++ more)
look_as new old some more put is = subst (λ (edits : List (ℕ × List ℕ)). LookAlike new (old ++ edits)) is put

-- where nothing differs nothing is put
pub look_none : (old more : List (ℕ × List ℕ)) → [] ≡ more → LookAlike old (old ++ more)
look_none old more is = look_as old old [] more (nothing old) is
