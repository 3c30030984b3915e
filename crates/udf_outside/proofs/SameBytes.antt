-- Bytes are the same where they are so in the fronts and in each block that is kept.
use Rattle.std.proofs.Common.{◌≡◌, ⊎_elim, ◌<◌, ◌≤◌, ℕ, zero, suc, ◌/◌, ◌%◌, max, Bool, true, false, cond, List, [], ◌∷◌, length, get_or, refl, sym, ◌∙◌, ap, subst, arith, Option, Some, is_some, All}
use Rattle.std.proofs.lemmas.List.{ext_get_or}
use Rattle.std.proofs.lemmas.Bool.{cases_lt}
use Rattle.std.specs.BTreeMap.{BTreeMap, keys, is_at}
use Rattle.std.specs.Map.{lookup, keys_of}
use Rattle.std.specs.Ordering.{nat_cmp}
use Rattle.udf_outside.specs.Blocks.{kept, byte_of, sparse_bytes, AgreeIn}
use Rattle.udf_outside.proofs.Sparsely.{same_key, none_there, bool_cases}
use Rattle.udf_outside.proofs.SparseBytes.{length_sparse, at_blocks}

-- what holds of each key holds of one that is found
all_at : (P : ℕ → Type 0) (entries : List (ℕ × List ℕ)) (q : ℕ) → All P (keys_of entries) → is_some (lookup (is_at (nat_cmp q)) entries) ≡ true → P q
all_at P [] q all is = absurd (let no : false ≡ true = is in cc)
all_at P (e ∷ es) q all is = ⊎_elim
    (λ (here : is_at (nat_cmp q) e.0 ≡ true). subst P (sym (same_key q e.0 here)) (all zero q (omega arith)))
    (λ (apart : is_at (nat_cmp q) e.0 ≡ false). all_at P es q (λ k d lt. all (suc k) d (omega arith))
    (sym (ap (λ (b : Bool). is_some (cond b (Some e.1) (lookup (is_at (nat_cmp q)) es))) apart) ∙ is))
    (bool_cases (is_at (nat_cmp q) e.0))

pub same_all : (front front' : List ℕ) (len len' : ℕ) (blocks blocks' : BTreeMap ℕ (List ℕ)) → length front ≤ len → length front' ≤ len'
    → length (sparse_bytes front len blocks) ≡ length (sparse_bytes front' len' blocks')
    → ((i : ℕ) → i < max (length front) (length front') → get_or (sparse_bytes front len blocks) i 0 ≡ get_or (sparse_bytes front' len' blocks') i 0)
    → All (AgreeIn (sparse_bytes front len blocks) (sparse_bytes front' len' blocks')) (keys blocks)
    → All (AgreeIn (sparse_bytes front len blocks) (sparse_bytes front' len' blocks')) (keys blocks')
    → sparse_bytes front len blocks ≡ sparse_bytes front' len' blocks'
same_all front front' len len' blocks blocks' le le' size near ours theirs =
    let ss = sparse_bytes front len blocks in
    let oo = sparse_bytes front' len' blocks' in
    let long : length ss ≡ len = length_sparse front len blocks le in
    let long' : length oo ≡ len' = length_sparse front' len' blocks' le' in
    ext_get_or 0 ss oo size (λ i lt. ⊎_elim
    (λ (close : i < max (length front) (length front')). near i close)
    (λ (far : max (length front) (length front') ≤ i). ⊎_elim
    (λ (here : is_some (kept blocks (i / 4096)) ≡ true). all_at (AgreeIn ss oo) blocks.entries (i / 4096) ours here i refl)
    (λ (gone : is_some (kept blocks (i / 4096)) ≡ false). ⊎_elim
    (λ (here : is_some (kept blocks' (i / 4096)) ≡ true). all_at (AgreeIn ss oo) blocks'.entries (i / 4096) theirs here i refl)
    (λ (gone' : is_some (kept blocks' (i / 4096)) ≡ false).
    at_blocks front len blocks i (omega arith) (omega arith) ∙ ap (λ (b : Option (List ℕ)). byte_of b (i % 4096)) (none_there (kept blocks (i / 4096)) gone)
    ∙ sym (at_blocks front' len' blocks' i (omega arith) (omega arith) ∙ ap (λ (b : Option (List ℕ)). byte_of b (i % 4096)) (none_there (kept blocks' (i / 4096)) gone')))
    (bool_cases (is_some (kept blocks' (i / 4096)))))
    (bool_cases (is_some (kept blocks (i / 4096)))))
    (cases_lt i (max (length front) (length front'))))

pub same_views : (front front' : List ℕ) (len len' : ℕ) (blocks blocks' : BTreeMap ℕ (List ℕ)) (xs ys : List ℕ) → length front ≤ len → length front' ≤ len'
    → sparse_bytes front len blocks ≡ xs → sparse_bytes front' len' blocks' ≡ ys → length xs ≡ length ys
    → ((i : ℕ) → i < max (length front) (length front') → get_or xs i 0 ≡ get_or ys i 0)
    → All (AgreeIn xs ys) (keys blocks) → All (AgreeIn xs ys) (keys blocks') → xs ≡ ys
same_views front front' len len' blocks blocks' xs ys le le' is is' size near ours theirs =
    let at_xs : (i : ℕ) → get_or (sparse_bytes front len blocks) i 0 ≡ get_or xs i 0 = λ i. ap (λ (l : List ℕ). get_or l i 0) is in
    let at_ys : (i : ℕ) → get_or ys i 0 ≡ get_or (sparse_bytes front' len' blocks') i 0 = λ i. ap (λ (l : List ℕ). get_or l i 0) (sym is') in
    sym is ∙ same_all front front' len len' blocks blocks' le le' (ap length is ∙ size ∙ sym (ap length is')) (λ i lt. at_xs i ∙ near i lt ∙ at_ys i)
    (λ k d lt i here. at_xs i ∙ ours k d lt i here ∙ at_ys i) (λ k d lt i here. at_xs i ∙ theirs k d lt i here ∙ at_ys i) ∙ is'
