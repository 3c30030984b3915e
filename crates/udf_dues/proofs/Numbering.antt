-- The wanted identifiers of what is found in the ordinary entries of a volume are those of the entries.
use Rattle.std.proofs.Common.{◌≡◌, ℕ, zero, suc, ◌+◌, ◌≤◌, List, [], ◌∷◌, ◌++◌, length, map, drop, get_or, Bool, true, false, not, cond, ◌&&◌, ◌||◌, nat_eq, refl, sym, ap, ◌∙◌, subst, inl, inr, arith, Option, Some, None}
use Rattle.std.specs.Prelude.{◌==◌, count_by, slice_index, if◌then◌else◌}
use Rattle.std.specs.List.{list_any, filter, range_with_len}
use Rattle.std.proofs.lemmas.Bool.{false≢true}
use Rattle.std.proofs.lemmas.Bool.Decides.{nat_tests}
use Rattle.std.proofs.lemmas.List.{append_assoc, map-append, drop-drop, get_or-drop}
use Rattle.std.proofs.lemmas.List.Sums.{sum_by-append}
use Rattle.udf_field.specs.declared.address.Addr.{Addr}
use Rattle.udf_file_model.specs.Address.{same_addr}
use Rattle.udf_file_model.specs.Listing.{Volume}
use Rattle.udf_tree_model.specs.Chosen.{is_lower}
use Rattle.udf_tree_model.specs.Frame.{Frame, places}
use Rattle.udf_tree_model.specs.Parent.{ordinary}
use Rattle.udf_tree_model.specs.Counts.{id_of, is_lawful_id, ordinary_entries, keeps_id, is_id_kept, free_ids, takes_id, place_among_takers, wanted_id}
use Rattle.udf_tree_model.proofs.Members.{Member, member_filter}
use Rattle.udf_dues.specs.Identifiers.{settled_after, settled_from, is_id, is_taken, free_among, filled, wanted_ids, identity}
use Rattle.udf_kept.proofs.Counted.{count_one}
use Rattle.udf_dues.proofs.Ascending.{Ascending, ordinary_ascend, any_lower, count_lower}

-- the identifier of an ordinary entry that stays, where one does
abbrev pub own : Frame → Volume → Addr → Option ℕ
own f v a = if same_addr a f.root then Some 0 else (if keeps_id f v a then Some (id_of v a) else None)

pub swap : (m n : ℕ) → nat_eq m n ≡ (n == m)
swap m n = go (nat_eq m n) (n == m) refl refl
  where
    go : (b c : Bool) → nat_eq m n ≡ b → (n == m) ≡ c → b ≡ c
    go true true e h = refl
    go false false e h = refl
    go true false e h = absurd (grind (arith, nat_tests))
    go false true e h = absurd (grind (arith, nat_tests))

-- entries with an identifier
found_before : (v : Volume) (n : ℕ) (xs : List Addr) → list_any (nat_eq n) (map (id_of v) xs) ≡ list_any (λ b. id_of v b == n) xs
found_before v n [] = refl
found_before v n (x ∷ xs) = ap (λ t. t || list_any (nat_eq n) (map (id_of v) xs)) (swap n (id_of v x)) ∙ ap (λ t. (id_of v x == n) || t) (found_before v n xs)

own_is : (f : Frame) (v : Volume) (before : List Addr) (a : Addr) (after : List Addr) → ordinary_entries f v ≡ before ++ a ∷ after
    → settled_after (map (id_of v) before) (identity f v a) ≡ own f v a
unfolding keeps_id
own_is f v before a after e = ap by_test same ∙ go (same_addr a f.root)
  where
    by_test : Bool → Option ℕ
    by_test t = if same_addr a f.root then Some 0 else (if is_lawful_id (id_of v a) && not t then Some (id_of v a) else None)

    lower : List Addr → Bool
    lower xs = list_any (λ b. is_lower b a && (id_of v b == id_of v a)) xs

    same : list_any (nat_eq (id_of v a)) (map (id_of v) before) ≡ lower (ordinary_entries f v)
    same =
        found_before v (id_of v a) before
        ∙ sym (any_lower (λ b. id_of v b == id_of v a) before a after (subst Ascending e (ordinary_ascend f v)))
        ∙ sym (ap lower e)

    go : (r : Bool) → (if r then Some 0 else (if is_lawful_id (id_of v a) && not (lower (ordinary_entries f v)) then Some (id_of v a) else None))
        ≡ (if r then Some 0 else (if not r && (is_lawful_id (id_of v a) && not (lower (ordinary_entries f v))) then Some (id_of v a) else None))
    go true = refl
    go false = refl

settled_is : (f : Frame) (v : Volume) (before after : List Addr) → ordinary_entries f v ≡ before ++ after
    → settled_from (map (id_of v) before) (map (identity f v) after) ≡ map (own f v) after
settled_is f v before [] e = refl
settled_is f v before (a ∷ after) e =
    ap (λ (o : Option ℕ). o ∷ settled_from (map (id_of v) before ++ id_of v a ∷ []) (map (identity f v) after)) (own_is f v before a after e)
    ∙ ap (λ (ids : List ℕ). own f v a ∷ settled_from ids (map (identity f v) after)) (sym (map-append (id_of v) before (a ∷ [])))
    ∙ ap (λ (r : List (Option ℕ)). own f v a ∷ r) (settled_is f v (before ++ a ∷ []) after (e ∙ sym (append_assoc before (a ∷ []) after)))

stays_is : (f : Frame) (v : Volume) (n : ℕ) → 16 ≤ n → (a : Addr) → is_id n (own f v a) ≡ (keeps_id f v a && (id_of v a == n))
unfolding keeps_id
stays_is f v n l a = go (same_addr a f.root) (is_lawful_id (id_of v a) && not (list_any (λ b. is_lower b a && (id_of v b == id_of v a)) (ordinary_entries f v)))
  where
    zero_not : nat_eq n 0 ≡ false
    zero_not = grind (arith, nat_tests)

    go : (r k : Bool) → is_id n (if r then Some 0 else (if not r && k then Some (id_of v a) else None)) ≡ ((not r && k) && (id_of v a == n))
    go true k = zero_not
    go false true = swap n (id_of v a)
    go false false = refl

taken_is : (f : Frame) (v : Volume) (n : ℕ) → 16 ≤ n → (xs : List Addr) → list_any (is_id n) (map (own f v) xs) ≡ list_any (λ b. keeps_id f v b && (id_of v b == n)) xs
taken_is f v n l [] = refl
taken_is f v n l (x ∷ xs) =
    ap (λ t. t || list_any (is_id n) (map (own f v) xs)) (stays_is f v n l x)
    ∙ ap (λ t. (keeps_id f v x && (id_of v x == n)) || t) (taken_is f v n l xs)

-- tests that agree from 16 on filter a run of numbers alike
filter_run : (p q : ℕ → Bool) → ((n : ℕ) → 16 ≤ n → p n ≡ q n) → (a k : ℕ) → 16 ≤ a → filter p (range_with_len a k) ≡ filter q (range_with_len a k)
filter_run p q h a zero l = refl
filter_run p q h a (suc k) l =
    ap (λ (b : Bool). cond b (a ∷ filter p (range_with_len (a + 1) k)) (filter p (range_with_len (a + 1) k))) (h a l)
    ∙ ap (λ (r : List ℕ). cond (q a) (a ∷ r) r) (filter_run p q h (a + 1) k (omega (arith, l)))

length_own : (f : Frame) (v : Volume) (xs : List Addr) → length (map (own f v) xs) ≡ length xs
length_own f v [] = refl
length_own f v (x ∷ xs) = ap suc (length_own f v xs)

pub free_is : (f : Frame) (v : Volume) → free_among (map (own f v) (ordinary_entries f v)) ≡ free_ids f v
unfolding free_among free_ids
free_is f v =
    ap (λ (k : ℕ). filter (λ n. not (is_taken (map (own f v) (ordinary_entries f v)) n)) (range_with_len 16 k)) (length_own f v (ordinary_entries f v))
    ∙ filter_run (λ n. not (is_taken (map (own f v) (ordinary_entries f v)) n)) (λ n. not (is_id_kept f v n)) (λ n l. ap not (taken_is f v n l (ordinary_entries f v))) 16 (length (ordinary_entries f v)) (omega arith)

count_next : (p : Addr → Bool) (before : List Addr) (a : Addr) → count_by p (before ++ a ∷ []) ≡ count_by p before + cond (p a) 1 0
count_next p before a =
    let x = sum_by-append (λ y. cond (p y) 1 0) before (a ∷ []) in
    let y : count_by p (a ∷ []) ≡ cond (p a) 1 0 + 0 = count_one p a [] in
    let z : count_by p (before ++ a ∷ []) ≡ count_by p before + count_by p (a ∷ []) = x in
    omega (arith, z, y)

-- one entry, with the rest behind it
filled_one : (r k o : Bool) (id place p : ℕ) (free : List ℕ) (rest : List (Option ℕ)) (ws : List ℕ) → o ≡ true → p ≡ place
    → filled rest (drop (place + cond (not r && not k) 1 0) free) ≡ ws
    → filled ((if r then Some 0 else (if k then Some id else None)) ∷ rest) (drop place free) ≡ (if r then 0 else (if o && (not r && not k) then slice_index free p else id)) ∷ ws
filled_one true k o id place p free rest ws t e h = let same : place ≡ place + 0 = omega arith in ap (λ (r : List ℕ). 0 ∷ r) (ap (λ (n : ℕ). filled rest (drop n free)) same ∙ h)
filled_one false true true id place p free rest ws t e h = let same : place ≡ place + 0 = omega arith in ap (λ (r : List ℕ). id ∷ r) (ap (λ (n : ℕ). filled rest (drop n free)) same ∙ h)
filled_one false k false id place p free rest ws t e h = absurd (false≢true t)
filled_one false false true id place p free rest ws t e h =
    let same : place + 0 ≡ p = omega (arith, e) in
    ap (λ (n : ℕ). n ∷ filled rest (drop 1 (drop place free))) (get_or-drop place free 0 0 ∙ ap (λ (i : ℕ). get_or free i 0) same)
    ∙ ap (λ (r : List ℕ). slice_index free p ∷ r) (ap (filled rest) (drop-drop 1 place free) ∙ h)

pub filled_is : (f : Frame) (v : Volume) (before after : List Addr) → ordinary_entries f v ≡ before ++ after → ((a : Addr) → Member a after → ordinary f v a ≡ true)
    → filled (map (own f v) after) (drop (count_by (takes_id f v) before) (free_ids f v)) ≡ map (wanted_id f v) after
unfolding wanted_id place_among_takers
filled_is f v before [] e h = refl
filled_is f v before (a ∷ after) e h =
    let rest : List (Option ℕ) = map (own f v) after in
    let more = filled_is f v (before ++ a ∷ []) after (e ∙ sym (append_assoc before (a ∷ []) after)) (λ b m. h b (inr m)) in
    let turn = ap (count_by (λ b. is_lower b a && takes_id f v b)) e ∙ count_lower (takes_id f v) before a after (subst Ascending e (ordinary_ascend f v)) in
    filled_one (same_addr a f.root) (keeps_id f v a) (ordinary f v a) (id_of v a) (count_by (takes_id f v) before) (place_among_takers f v a) (free_ids f v) rest (map (wanted_id f v) after) (h a (inl refl)) turn
    (ap (λ (n : ℕ). filled rest (drop n (free_ids f v))) (sym (count_next (takes_id f v) before a)) ∙ more)

pub are_ordinary : (f : Frame) (v : Volume) (a : Addr) → Member a (ordinary_entries f v) → ordinary f v a ≡ true
unfolding ordinary_entries
are_ordinary f v a m = (member_filter (ordinary f v) (places v) a m).1

pub numbered : (f : Frame) (v : Volume) → wanted_ids (map (identity f v) (ordinary_entries f v)) ≡ map (wanted_id f v) (ordinary_entries f v)
unfolding wanted_ids
numbered f v =
    ap (λ (ids : List (Option ℕ)). filled ids (free_among ids)) (settled_is f v [] (ordinary_entries f v) refl)
    ∙ ap (filled (map (own f v) (ordinary_entries f v))) (free_is f v)
    ∙ filled_is f v [] (ordinary_entries f v) refl (are_ordinary f v)
