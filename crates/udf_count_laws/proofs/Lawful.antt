-- The wanted identifiers of ordinary entries but the root are lawful.
use Rattle.std.proofs.Common.{◌≡◌, inl, inr, ℕ, zero, suc, ◌+◌, ◌*◌, ◌<◌, ◌≤◌, ◌^◌, arith, refl, sym, ◌∙◌, ap, List, [], ◌∷◌, ◌++◌, length, map, get_or, Bool, true, false, not, cond, ◌&&◌, Some, None, length-append}
use Rattle.std.specs.Prelude.{count_by, filter, is_none, slice_index, if◌then◌else◌, nat_le, nat_lt}
use Rattle.std.specs.List.{flat_map, range_with_len}
use Rattle.std.proofs.lemmas.Bool.{and_from, and_parts, le-leb, lt-ltb, false≢true}
use Rattle.std.proofs.lemmas.List.{length-map}
use Rattle.std.proofs.lemmas.List.FromFn.{length-range_with_len}
use Rattle.std.proofs.lemmas.List.Sums.{count_by-le-length, length-filter, sum_by-cons}
use Rattle.udf_field.specs.declared.address.Addr.{Addr}
use Rattle.udf_file_model.specs.Address.{addr, same_addr}
use Rattle.udf_file_model.specs.Listing.{Volume, addresses_from, is_placed}
use Rattle.udf_tree_model.specs.Among.{Member}
use Rattle.udf_tree_model.specs.Chosen.{is_lower}
use Rattle.udf_tree_model.specs.Counts.{free_ids, id_of, is_id_kept, is_lawful_id, keeps_id, ordinary_entries, place_among_takers, takes_id, wanted_id}
use Rattle.udf_tree_model.specs.Frame.{Frame, addresses_below, places}
use Rattle.udf_tree_model.specs.Parent.{ordinary}
use Rattle.udf_tree_model.proofs.Members.{member_filter}
use Rattle.udf_dues.specs.Identifiers.{free_among}
use Rattle.udf_dues.proofs.Ascending.{not_lower_itself}
use Rattle.udf_dues.proofs.Filling.{enough_free}
use Rattle.udf_dues.proofs.Numbering.{are_ordinary, free_is, own}

-- a volume has no more places than addresses
row_long : (n a k : ℕ) → length (flat_map (λ part. addresses_from (addr part 0) n) (range_with_len a k)) ≡ k * n
row_long n a zero = let e : 0 ≡ 0 * n = omega arith in e
row_long n a (suc k) =
    let here : length (addresses_from (addr a 0) n) ≡ n = length-map (range_with_len 0 n) (λ block. addr a block) ∙ length-range_with_len 0 n in
    let rest : length (flat_map (λ part. addresses_from (addr part 0) n) (range_with_len (a + 1) k)) ≡ k * n = row_long n (a + 1) k in
    let both : length (addresses_from (addr a 0) n ++ flat_map (λ part. addresses_from (addr part 0) n) (range_with_len (a + 1) k))
    ≡ length (addresses_from (addr a 0) n) + length (flat_map (λ part. addresses_from (addr part 0) n) (range_with_len (a + 1) k))
    = length-append (addresses_from (addr a 0) n) (flat_map (λ part. addresses_from (addr part 0) n) (range_with_len (a + 1) k)) in
    omega (arith, here, rest, both)

below_long : (parts blocks : ℕ) → length (addresses_below parts blocks) ≡ parts * blocks
unfolding addresses_below
below_long parts blocks = row_long blocks 0 parts

fewer : (p : Addr → Bool) (xs : List Addr) → length (filter p xs) ≤ length xs
fewer p xs = let e : length (filter p xs) ≡ count_by p xs = length-filter p xs in let l : count_by p xs ≤ length xs = count_by-le-length p xs in omega (arith, e, l)

few_places : (v : Volume) → length (places v) ≤ 2 ^ 48
unfolding places
few_places v =
    let l : length (filter (is_placed v) (addresses_below 65536 4294967296)) ≤ length (addresses_below 65536 4294967296) = fewer (is_placed v) (addresses_below 65536 4294967296) in
    let e : length (addresses_below 65536 4294967296) ≡ 65536 * 4294967296 = below_long 65536 4294967296 in
    omega (arith, l, e)

few_ordinary : (f : Frame) (v : Volume) → length (ordinary_entries f v) ≤ 2 ^ 48
unfolding ordinary_entries
few_ordinary f v = let l : length (filter (ordinary f v) (places v)) ≤ length (places v) = fewer (ordinary f v) (places v) in omega (arith, l, few_places v)

at_member : (xs : List ℕ) (i : ℕ) → i < length xs → Member (get_or xs i 0) xs
at_member [] i l = absurd (omega arith)
at_member (x ∷ xs) zero l = inl refl
at_member (x ∷ xs) (suc i) l = inr (at_member xs i (omega arith))

in_range : (a k n : ℕ) → Member n (range_with_len a k) → (a ≤ n) × (n < a + k)
in_range a zero n m = absurd m
in_range a (suc k) n (inl e) = (omega (arith, e), omega (arith, e))
in_range a (suc k) n (inr m) = let r : (a + 1 ≤ n) × (n < a + 1 + k) = in_range (a + 1) k n m in (omega (arith, r.0), omega (arith, r.1))

abbrev one_if : Bool → ℕ
one_if b = cond b 1 0

at_most_one : (b : Bool) → one_if b ≤ 1
at_most_one true = omega arith
at_most_one false = omega arith

-- fewer pass a test than another that it implies and that a further one passes
count_cons : {X : Type 0} (p : X → Bool) (x : X) (xs : List X) → count_by p (x ∷ xs) ≡ cond (p x) 1 0 + count_by p xs
count_cons p x xs = sum_by-cons (λ y. cond (p y) 1 0) x xs

count_within : (p q : Addr → Bool) (xs : List Addr) → ((a : Addr) → p a ≡ true → q a ≡ true) → count_by p xs ≤ count_by q xs
count_within p q [] i = omega arith
count_within p q (x ∷ xs) i = by (p x) (q x) refl refl (count_within p q xs i)
  where
    by : (s t : Bool) → p x ≡ s → q x ≡ t → count_by p xs ≤ count_by q xs → count_by p (x ∷ xs) ≤ count_by q (x ∷ xs)
    by s true e h l =
        let a : one_if (p x) ≤ 1 = at_most_one (p x) in
        let b : one_if (q x) ≡ 1 = ap one_if h in
        omega (arith, l, a, b, count_cons p x xs, count_cons q x xs)
    by false false e h l =
        let a : one_if (p x) ≡ 0 = ap one_if e in
        omega (arith, l, a, count_cons p x xs, count_cons q x xs)
    by true false e h l = absurd (false≢true (sym h ∙ i x e))

count_below : (p q : Addr → Bool) (a : Addr) (xs : List Addr) → ((b : Addr) → p b ≡ true → q b ≡ true) → Member a xs → p a ≡ false → q a ≡ true
    → count_by p xs < count_by q xs
count_below p q a [] i m n y = absurd m
count_below p q a (x ∷ xs) i (inl e) n y =
    let s : one_if (p x) ≡ 0 = ap one_if (ap p (sym e) ∙ n) in
    let t : one_if (q x) ≡ 1 = ap one_if (ap q (sym e) ∙ y) in
    omega (arith, s, t, count_within p q xs i, count_cons p x xs, count_cons q x xs)
count_below p q a (x ∷ xs) i (inr m) n y = by (p x) (q x) refl refl (count_below p q a xs i m n y)
  where
    by : (s t : Bool) → p x ≡ s → q x ≡ t → count_by p xs < count_by q xs → count_by p (x ∷ xs) < count_by q (x ∷ xs)
    by s true e h l =
        let a : one_if (p x) ≤ 1 = at_most_one (p x) in
        let b : one_if (q x) ≡ 1 = ap one_if h in
        omega (arith, l, a, b, count_cons p x xs, count_cons q x xs)
    by false false e h l =
        let a : one_if (p x) ≡ 0 = ap one_if e in
        omega (arith, l, a, count_cons p x xs, count_cons q x xs)
    by true false e h l = absurd (false≢true (sym h ∙ i x e))

takes_none : (f : Frame) (v : Volume) (b : Addr) → is_none (own f v b) ≡ takes_id f v b
takes_none f v b = by (same_addr b f.root) (keeps_id f v b)
  where
    by : (r k : Bool) → is_none (if r then Some 0 else (if k then Some (id_of v b) else None)) ≡ (not r && not k)
    by true k = refl
    by false true = refl
    by false false = refl

count_takers : (f : Frame) (v : Volume) (xs : List Addr) → count_by is_none (map (own f v) xs) ≡ count_by (takes_id f v) xs
count_takers f v [] = refl
count_takers f v (x ∷ xs) =
    count_cons is_none (own f v x) (map (own f v) xs)
    ∙ ap (λ b. cond b 1 0 + count_by is_none (map (own f v) xs)) (takes_none f v x)
    ∙ ap (λ n. cond (takes_id f v x) 1 0 + n) (count_takers f v xs)
    ∙ sym (count_cons (takes_id f v) x xs)

-- one that takes a new identifier finds a free one
place_in : (f : Frame) (v : Volume) (a : Addr) → Member a (ordinary_entries f v) → takes_id f v a ≡ true → place_among_takers f v a < length (free_ids f v)
unfolding place_among_takers
place_in f v a m t =
    let enough : count_by is_none (map (own f v) (ordinary_entries f v)) ≤ length (free_among (map (own f v) (ordinary_entries f v))) = enough_free (map (own f v) (ordinary_entries f v)) in
    let free : length (free_among (map (own f v) (ordinary_entries f v))) ≡ length (free_ids f v) = ap length (free_is f v) in
    let takers : count_by is_none (map (own f v) (ordinary_entries f v)) ≡ count_by (takes_id f v) (ordinary_entries f v) = count_takers f v (ordinary_entries f v) in
    let below : count_by (λ b. is_lower b a && takes_id f v b) (ordinary_entries f v) < count_by (takes_id f v) (ordinary_entries f v) =
    count_below (λ b. is_lower b a && takes_id f v b) (takes_id f v) a (ordinary_entries f v)
    (λ b e. (and_parts (is_lower b a) (takes_id f v b) e).1) m (ap (λ b. b && takes_id f v a) (not_lower_itself a)) t in
    omega (arith, enough, free, takers, below)

free_lawful : (f : Frame) (v : Volume) (n : ℕ) → Member n (free_ids f v) → is_lawful_id n ≡ true
unfolding free_ids
free_lawful f v n m =
    let r : (16 ≤ n) × (n < 16 + length (ordinary_entries f v)) =
    in_range 16 (length (ordinary_entries f v)) n (member_filter (λ id. not (is_id_kept f v id)) (range_with_len 16 (length (ordinary_entries f v))) n m).0 in
    and_from (nat_le 16 n) (nat_lt n (2 ^ 63)) (le-leb _ _ r.0) (lt-ltb _ _ (omega (arith, r.1, few_ordinary f v)))

kept_lawful : (f : Frame) (v : Volume) (a : Addr) → keeps_id f v a ≡ true → is_lawful_id (id_of v a) ≡ true
unfolding keeps_id
kept_lawful f v a k = (and_parts (is_lawful_id (id_of v a)) _ (and_parts (not (same_addr a f.root)) _ k).1).0

pub wanted_lawful : (f : Frame) (v : Volume) (a : Addr) → Member a (ordinary_entries f v) → same_addr a f.root ≡ false → is_lawful_id (wanted_id f v a) ≡ true
unfolding wanted_id
wanted_lawful f v a m n =
    ap (λ b. is_lawful_id (cond b 0 (cond (ordinary f v a && takes_id f v a) (slice_index (free_ids f v) (place_among_takers f v a)) (id_of v a)))) n
    ∙ ap (λ b. is_lawful_id (cond (b && takes_id f v a) (slice_index (free_ids f v) (place_among_takers f v a)) (id_of v a))) (are_ordinary f v a m)
    ∙ by (takes_id f v a) refl
  where
    kept : (r k : Bool) → same_addr a f.root ≡ r → keeps_id f v a ≡ k → r ≡ false → (not r && not k) ≡ false → keeps_id f v a ≡ true
    kept r true e h s t = h
    kept true false e h s t = absurd (false≢true (sym s))
    kept false false e h s t = absurd (false≢true (sym t))

    by : (b : Bool) → takes_id f v a ≡ b → is_lawful_id (cond b (slice_index (free_ids f v) (place_among_takers f v a)) (id_of v a)) ≡ true
    by true e = free_lawful f v (slice_index (free_ids f v) (place_among_takers f v a)) (at_member (free_ids f v) (place_among_takers f v a) (place_in f v a m e))
    by false e = kept_lawful f v a (kept (same_addr a f.root) (keeps_id f v a) refl refl n e)
