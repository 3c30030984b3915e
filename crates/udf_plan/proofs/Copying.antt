-- Blocks that are copied to other sectors, one after the other.
use Rattle.std.proofs.Common.{◌≡◌, ℕ, zero, suc, ◌+◌, arith, refl, sym, ◌∙◌, ap, List, [], ◌∷◌, ◌++◌, take, length, get_or, ◌<◌}
use Rattle.std.proofs.lemmas.List.{take_more}
use Rattle.udf_model.specs.Tag.{relocated}
use Rattle.udf_wanted.specs.Wanted.{LookAlike}
use Rattle.udf_wanted.proofs.Looking.{nothing}
use Rattle.udf_plan.specs.Stated.{copies_at, moved}

pub none_moved : (disk : ℕ → List ℕ) (from to : ℕ) (edits : List (ℕ × List ℕ)) → LookAlike edits (edits ++ moved disk from to 0)
unfolding moved
none_moved disk from to edits = nothing edits

one_after : (disk : ℕ → List ℕ) (from to count : ℕ)
    → moved disk from to count ++ (to + count, relocated (to + count) (disk (from + count))) ∷ [] ≡ moved disk from to (suc count)
unfolding moved
one_after disk from to zero =
    let t : to + 0 ≡ to = omega arith in
    let f : from + 0 ≡ from = omega arith in
    ap (λ n. (n, relocated n (disk (from + 0))) ∷ []) t ∙ ap (λ n. (to, relocated to (disk n)) ∷ []) f
one_after disk from to (suc count) =
    let t : to + suc count ≡ to + 1 + count = omega arith in
    let f : from + suc count ≡ from + 1 + count = omega arith in
    ap (λ n. (to, relocated to (disk from)) ∷ (moved disk (from + 1) (to + 1) count ++ (n, relocated n (disk (from + suc count))) ∷ [])) t
    ∙ ap (λ n. (to, relocated to (disk from)) ∷ (moved disk (from + 1) (to + 1) count ++ (to + 1 + count, relocated (to + 1 + count) (disk n)) ∷ [])) f
    ∙ ap (λ (rest : List (ℕ × List ℕ)). (to, relocated to (disk from)) ∷ rest) (one_after disk (from + 1) (to + 1) count)

pub one_moved : (disk : ℕ → List ℕ) (from to count : ℕ)
    → moved disk from to count ++ (to + count, relocated (to + count) (disk (from + count))) ∷ [] ≡ moved disk from to (count + 1)
one_moved disk from to count = one_after disk from to count ∙ ap (moved disk from to) (let e : suc count ≡ count + 1 = omega arith in e)

pub none_copied : (block : List ℕ) (edits : List (ℕ × List ℕ)) → LookAlike edits (edits ++ copies_at block [])
unfolding copies_at
none_copied block edits = nothing edits

copies_both : (block : List ℕ) (xs ys : List ℕ) → copies_at block xs ++ copies_at block ys ≡ copies_at block (xs ++ ys)
unfolding copies_at
copies_both block [] ys = refl
copies_both block (x ∷ xs) ys = ap (λ (rest : List (ℕ × List ℕ)). (x, relocated x block) ∷ rest) (copies_both block xs ys)

pub one_copied : (block : List ℕ) (places : List ℕ) (i : ℕ) → i < length places
    → copies_at block (take i places) ++ (get_or places i 0, relocated (get_or places i 0) block) ∷ [] ≡ copies_at block (take (i + 1) places)
unfolding copies_at
one_copied block places i lt =
    copies_both block (take i places) (get_or places i 0 ∷ []) ∙ ap (copies_at block) (sym (take_more places i 0 lt))
