-- Bytes by blocks: a block of zeros and none are the same.
use Rattle.std.proofs.Common.{◌≡◌, ◌⊎◌, inl, inr, ⊎_elim, ℕ, ◌/◌, ◌%◌, Bool, true, false, cond, List, [], ◌∷◌, get_or, refl, sym, ◌∙◌, ap, arith, Option, Some, None, is_some, Result, Ok, Err, MatchResult, IfOk}
use Rattle.std.specs.BTreeMap.{BTreeMap, is_at}
use Rattle.std.specs.List.{AllZip}
use Rattle.std.specs.Map.{lookup}
use Rattle.std.specs.Ordering.{nat_cmp}
use Rattle.udf_outside.specs.Blocks.{kept, byte_of, byte_in}

pub bool_cases : (b : Bool) → (b ≡ true) ⊎ (b ≡ false)
bool_cases true = inl refl
bool_cases false = inr refl

-- a block of zeros comes in place of none
pub block_comes : (old new : BTreeMap ℕ (List ℕ)) (number i : ℕ) (block : List ℕ) → ((k : ℕ) → get_or block k 0 ≡ 0)
    → kept new (i / 4096) ≡ cond (is_at (nat_cmp number) (i / 4096)) (Some block) (kept old (i / 4096))
    → (is_at (nat_cmp number) (i / 4096) ≡ true → kept old (i / 4096) ≡ None) → byte_in new i ≡ byte_in old i
block_comes old new number i block zeros now was =
    ap (λ (b : Option (List ℕ)). byte_of b (i % 4096)) now ∙ ⊎_elim
    (λ is. ap (λ (b : Bool). byte_of (cond b (Some block) (kept old (i / 4096))) (i % 4096)) is ∙ zeros (i % 4096) ∙ sym (ap (λ (b : Option (List ℕ)). byte_of b (i % 4096)) (was is)))
    (λ not. ap (λ (b : Bool). byte_of (cond b (Some block) (kept old (i / 4096))) (i % 4096)) not)
    (bool_cases (is_at (nat_cmp number) (i / 4096)))

-- a block of zeros goes
pub block_goes : (old new : BTreeMap ℕ (List ℕ)) (number i : ℕ) (block : List ℕ) → ((k : ℕ) → get_or block k 0 ≡ 0)
    → kept new (i / 4096) ≡ cond (is_at (nat_cmp number) (i / 4096)) None (kept old (i / 4096))
    → (is_at (nat_cmp number) (i / 4096) ≡ true → kept old (i / 4096) ≡ Some block) → byte_in new i ≡ byte_in old i
block_goes old new number i block zeros now was =
    ap (λ (b : Option (List ℕ)). byte_of b (i % 4096)) now ∙ ⊎_elim
    (λ is. ap (λ (b : Bool). byte_of (cond b None (kept old (i / 4096))) (i % 4096)) is ∙ sym (ap (λ (b : Option (List ℕ)). byte_of b (i % 4096)) (was is) ∙ zeros (i % 4096)))
    (λ not. ap (λ (b : Bool). byte_of (cond b None (kept old (i / 4096))) (i % 4096)) not)
    (bool_cases (is_at (nat_cmp number) (i / 4096)))

pub same_key : (a b : ℕ) → is_at (nat_cmp a) b ≡ true → a ≡ b
same_key a b is = grind arith

pub none_there : {X : Type 0} (o : Option X) → is_some o ≡ false → o ≡ None
none_there None is = refl
none_there (Some x) is = absurd (let no : true ≡ false = is in cc)

pub none_kept : (blocks : BTreeMap ℕ (List ℕ)) → blocks.entries ≡ [] → (i : ℕ) → byte_in blocks i ≡ 0
none_kept blocks empty i = ap (λ (entries : List (ℕ × List ℕ)). byte_of (lookup (is_at (nat_cmp (i / 4096))) entries) (i % 4096)) empty

-- a clone has the same entries
pub same_entries : (xs ys : List (ℕ × List ℕ)) → AllZip (λ p q. (q.0 ≡ p.0) × (q.1 ≡ p.1)) xs ys → ys ≡ xs
same_entries [] [] same = refl
same_entries [] (y ∷ ys) same = absurd same
same_entries (x ∷ xs) [] same = absurd same
same_entries (x ∷ xs) (y ∷ ys) same =
    ap (λ (n : ℕ). let e : ℕ × List ℕ = (n, y.1) in e ∷ ys) same.0.0 ∙ ap (λ (b : List ℕ). let e : ℕ × List ℕ = (x.0, b) in e ∷ ys) same.0.1 ∙ ap (λ (l : List (ℕ × List ℕ)). x ∷ l) (same_entries xs ys same.1)

pub same_blocks : (old new : BTreeMap ℕ (List ℕ)) → new.entries ≡ old.entries → (i : ℕ) → byte_in new i ≡ byte_in old i
same_blocks old new same i = ap (λ (entries : List (ℕ × List ℕ)). byte_of (lookup (is_at (nat_cmp (i / 4096))) entries) (i % 4096)) same

pub clones : {E : Type 0} (Q : E → Type 0) (copied : Result (BTreeMap ℕ (List ℕ)) E) (old : BTreeMap ℕ (List ℕ))
    → MatchResult copied (λ new. AllZip (λ p q. (q.0 ≡ p.0) × (q.1 ≡ p.1)) old.entries new.entries) Q → IfOk copied (λ copy. (i : ℕ) → byte_in copy i ≡ byte_in old i)
clones Q (Ok new) old same = same_blocks old new (same_entries old.entries new.entries same)
clones Q (Err e) old same = tt
