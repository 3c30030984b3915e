-- The wanted identifiers of ordinary entries differ, and those of all but the root are lawful.
use Rattle.std.proofs.Common.{◌≡◌, ◌⊎◌, ℕ, zero, suc, ◌+◌, ◌<◌, ◌≤◌, List, [], ◌∷◌, length, map, Bool, true, false, not, cond, ◌&&◌, ◌||◌, nat_eq, refl, sym, ap, ◌∙◌, subst, inl, inr, arith, Option, Some, None}
use Rattle.std.specs.Prelude.{◌==◌, count_by, is_none, is_some, if◌then◌else◌, Contains}
use Rattle.std.specs.List.{list_any, filter, range_with_len}
use Rattle.std.proofs.lemmas.Bool.{and_parts, and_from, or_right, false≢true}
use Rattle.std.proofs.lemmas.Bool.Decides.{nat_tests}
use Rattle.udf_field.specs.declared.address.Addr.{Addr}
use Rattle.udf_file_model.specs.Address.{same_addr}
use Rattle.udf_file_model.specs.Listing.{Volume}
use Rattle.udf_tree_model.specs.Chosen.{is_lower}
use Rattle.udf_tree_model.specs.Frame.{Frame}
use Rattle.udf_tree_model.specs.Counts.{id_of, is_lawful_id, ordinary_entries, keeps_id, wanted_id}
use Rattle.udf_tree_model.proofs.Members.{Member, member_filter, member_map, member_of, any_from}
use Rattle.udf_tree_model.proofs.Places.{same_address}
use Rattle.udf_dues.specs.Identifiers.{is_id, is_taken, free_among, filled}
use Rattle.udf_kept.proofs.Counted.{count_one}
use Rattle.udf_dues.proofs.Filling.{enough_free}
use Rattle.udf_dues.proofs.Ascending.{Ascending, ordinary_ascend, not_lower_itself}
use Rattle.udf_dues.proofs.Numbering.{own, free_is, filled_is, are_ordinary}

kept_lawful : (f : Frame) (v : Volume) (a : Addr) → keeps_id f v a ≡ true → is_lawful_id (id_of v a) ≡ true
unfolding keeps_id
kept_lawful f v a k = (and_parts (is_lawful_id (id_of v a)) _ (and_parts (not (same_addr a f.root)) _ k).1).0

kept_first : (f : Frame) (v : Volume) (a : Addr) → keeps_id f v a ≡ true → list_any (λ b. is_lower b a && (id_of v b == id_of v a)) (ordinary_entries f v) ≡ false
unfolding keeps_id
kept_first f v a k = go _ (and_parts (is_lawful_id (id_of v a)) _ (and_parts (not (same_addr a f.root)) _ k).1).1
  where
    go : (b : Bool) → not b ≡ true → b ≡ false
    go false e = refl
    go true e = absurd (false≢true e)

not_zero : (n : ℕ) → is_lawful_id n ≡ true → (nat_eq n 0 ≡ false) × (nat_eq 0 n ≡ false)
not_zero n l = (grind (arith, nat_tests), grind (arith, nat_tests))

abbrev number : Option ℕ → ℕ
number None = 0
number (Some n) = n

-- no later entry keeps the identifier that stays with an earlier one
apart : (f : Frame) (v : Volume) (a b : Addr) (n : ℕ) → Member a (ordinary_entries f v) → is_lower a b ≡ true → own f v a ≡ Some n → is_id n (own f v b) ≡ false
apart f v a b n m l e = go (same_addr a f.root) (keeps_id f v a) (same_addr b f.root) (keeps_id f v b) refl refl refl refl e
  where
    value : (x y : ℕ) → Some x ≡ Some y → x ≡ y
    value x y h = ap number h

    other : (t : Bool) → nat_eq (id_of v a) (id_of v b) ≡ t → keeps_id f v b ≡ true → t ≡ false
    other false e k = refl
    other true e k =
        let same : (id_of v a == id_of v b) ≡ true = grind (arith, nat_tests) in
        absurd (false≢true (sym (kept_first f v b k) ∙ any_from (λ c. is_lower c b && (id_of v c == id_of v b)) (ordinary_entries f v) a m (and_from (is_lower a b) _ l same)))

    go : (ra ka rb kb : Bool) → same_addr a f.root ≡ ra → keeps_id f v a ≡ ka → same_addr b f.root ≡ rb → keeps_id f v b ≡ kb
        → (if ra then Some 0 else (if ka then Some (id_of v a) else None)) ≡ Some n → is_id n (if rb then Some 0 else (if kb then Some (id_of v b) else None)) ≡ false
    go ra ka false false r k s t h = refl
    go true ka true kb r k s t h =
        let same : b ≡ a = same_address b f.root s ∙ sym (same_address a f.root r) in
        absurd (false≢true (sym (not_lower_itself a) ∙ subst (λ (x : Addr). is_lower a x ≡ true) same l))
    go true ka false true r k s t h = ap (λ (x : ℕ). nat_eq x (id_of v b)) (sym (value 0 n h)) ∙ (not_zero (id_of v b) (kept_lawful f v b t)).1
    go false true true kb r k s t h = ap (λ (x : ℕ). nat_eq x 0) (sym (value (id_of v a) n h)) ∙ (not_zero (id_of v a) (kept_lawful f v a k)).0
    go false true false true r k s t h = ap (λ (x : ℕ). nat_eq x (id_of v b)) (sym (value (id_of v a) n h)) ∙ other (nat_eq (id_of v a) (id_of v b)) refl t
    go false false rb kb r k s t h = absurd (false≢true (ap is_some h))

-- no identifier stays with two entries
abbrev Apart : List (Option ℕ) → Type 0
Apart [] = Unit {0}
Apart (o ∷ os) = ((n : ℕ) → o ≡ Some n → list_any (is_id n) os ≡ false) × Apart os

stay_apart : (f : Frame) (v : Volume) (xs : List Addr) → Ascending xs → ((a : Addr) → Member a xs → Member a (ordinary_entries f v)) → Apart (map (own f v) xs)
stay_apart f v [] h m = tt
stay_apart f v (x ∷ xs) h m = (λ n e. none n e xs h.0, stay_apart f v xs h.1 (λ a k. m a (inr k)))
  where
    none : (n : ℕ) → own f v x ≡ Some n → (ys : List Addr) → ((b : Addr) → Member b ys → is_lower x b ≡ true) → list_any (is_id n) (map (own f v) ys) ≡ false
    none n e [] l = refl
    none n e (y ∷ ys) l = ap (λ t. t || list_any (is_id n) (map (own f v) ys)) (apart f v x y n (m x (inl refl)) (l y (inl refl)) e) ∙ none n e ys (λ b k. l b (inr k))

abbrev Distinct : List ℕ → Type 0
Distinct [] = Unit {0}
Distinct (n ∷ ns) = (Member n ns → ⊥) × Distinct ns

run_low : (a k n : ℕ) → Member n (range_with_len a k) → (a ≤ n) × (n < a + k)
run_low a zero n m = absurd m
run_low a (suc k) n (inl e) = (omega (arith, e), omega (arith, e))
run_low a (suc k) n (inr m) = let r = run_low (a + 1) k n m in let x = r.0 in let y = r.1 in (omega (arith, x), omega (arith, y))

distinct_run : (p : ℕ → Bool) (a k : ℕ) → Distinct (filter p (range_with_len a k))
distinct_run p a zero = tt
distinct_run p a (suc k) = go (p a) (distinct_run p (a + 1) k)
  where
    rest : List ℕ
    rest = filter p (range_with_len (a + 1) k)

    go : (b : Bool) → Distinct rest → Distinct (cond b (a ∷ rest) rest)
    go true d = ((λ m. let r = (run_low (a + 1) k a (member_filter p (range_with_len (a + 1) k) a m).0).0 in omega (arith, r)), d)
    go false d = d

-- what a filled list has stays or was free
filled_member : (ids : List (Option ℕ)) (free : List ℕ) (n : ℕ) → count_by is_none ids ≤ length free → Member n (filled ids free) → (list_any (is_id n) ids ≡ true) ⊎ Member n free
filled_member [] free n h m = absurd m
filled_member (Some id ∷ ids) free n h (inl e) = inl (ap (λ t. t || list_any (is_id n) ids) (let t : nat_eq n id ≡ true = grind (arith, nat_tests) in t))
filled_member (Some id ∷ ids) free n h (inr m) = let c = count_one is_none (Some id) ids in go (filled_member ids free n (omega (arith, c, h)) m)
  where
    go : (list_any (is_id n) ids ≡ true) ⊎ Member n free → ((nat_eq n id || list_any (is_id n) ids) ≡ true) ⊎ Member n free
    go (inl k) = inl (or_right (nat_eq n id) _ k)
    go (inr k) = inr k
filled_member (None ∷ ids) [] n h m = let c = count_one is_none None ids in absurd (omega (arith, c, h))
filled_member (None ∷ ids) (x ∷ xs) n h (inl e) = inr (inl e)
filled_member (None ∷ ids) (x ∷ xs) n h (inr m) = let c = count_one is_none None ids in go (filled_member ids xs n (omega (arith, c, h)) m)
  where
    go : (list_any (is_id n) ids ≡ true) ⊎ Member n xs → (list_any (is_id n) ids ≡ true) ⊎ Member n (x ∷ xs)
    go (inl k) = inl k
    go (inr k) = inr (inr k)

distinct_filled : (ids : List (Option ℕ)) (free : List ℕ) → count_by is_none ids ≤ length free → Apart ids → Distinct free
    → ((n : ℕ) → Member n free → list_any (is_id n) ids ≡ false) → Distinct (filled ids free)
distinct_filled [] free h a d o = tt
distinct_filled (Some id ∷ ids) free h a d o =
    let c = count_one is_none (Some id) ids in
    let low : count_by is_none ids ≤ length free = omega (arith, c, h) in
    (λ m. go (filled_member ids free id low m), distinct_filled ids free low a.1 d (λ n m. later (nat_eq n id) _ (o n m)))
  where
    later : (b t : Bool) → (b || t) ≡ false → t ≡ false
    later true t e = absurd (false≢true (sym e))
    later false t e = e

    go : (list_any (is_id id) ids ≡ true) ⊎ Member id free → ⊥
    go (inl k) = false≢true (sym (a.0 id refl) ∙ k)
    go (inr k) = let t : nat_eq id id ≡ true = grind (arith, nat_tests) in false≢true (sym (o id k) ∙ ap (λ b. b || list_any (is_id id) ids) t)
distinct_filled (None ∷ ids) [] h a d o = let c = count_one is_none None ids in absurd (omega (arith, c, h))
distinct_filled (None ∷ ids) (x ∷ xs) h a d o =
    let c = count_one is_none None ids in
    let low : count_by is_none ids ≤ length xs = omega (arith, c, h) in
    (λ m. go (filled_member ids xs x low m), distinct_filled ids xs low a.1 d.1 (λ n m. o n (inr m)))
  where
    go : (list_any (is_id x) ids ≡ true) ⊎ Member x xs → ⊥
    go (inl k) = false≢true (sym (o x (inl refl)) ∙ k)
    go (inr k) = d.0 k

free_apart : (ids : List (Option ℕ)) (n : ℕ) → Member n (free_among ids) → list_any (is_id n) ids ≡ false
unfolding free_among
free_apart ids n m = go (is_taken ids n) (member_filter (λ q. not (is_taken ids q)) (range_with_len 16 (length ids)) n m).1
  where
    go : (b : Bool) → not b ≡ true → b ≡ false
    go false e = refl
    go true e = absurd (false≢true e)

free_distinct : (ids : List (Option ℕ)) → Distinct (free_among ids)
unfolding free_among
free_distinct ids = distinct_run (λ q. not (is_taken ids q)) 16 (length ids)

-- the wanted identifiers, as a filled list
wanted_filled : (f : Frame) (v : Volume) → filled (map (own f v) (ordinary_entries f v)) (free_among (map (own f v) (ordinary_entries f v))) ≡ map (wanted_id f v) (ordinary_entries f v)
wanted_filled f v = ap (filled (map (own f v) (ordinary_entries f v))) (free_is f v) ∙ filled_is f v [] (ordinary_entries f v) refl (are_ordinary f v)

same_of_map : (w : Addr → ℕ) (xs : List Addr) (a b : Addr) → Distinct (map w xs) → Member a xs → Member b xs → w a ≡ w b → a ≡ b
same_of_map w [] a b d m k e = absurd m
same_of_map w (x ∷ xs) a b d (inl i) (inl j) e = i ∙ sym j
same_of_map w (x ∷ xs) a b d (inl i) (inr k) e = absurd (d.0 (subst (λ (n : ℕ). Member n (map w xs)) (sym e ∙ ap w i) (member_map w xs b k)))
same_of_map w (x ∷ xs) a b d (inr m) (inl j) e = absurd (d.0 (subst (λ (n : ℕ). Member n (map w xs)) (e ∙ ap w j) (member_map w xs a m)))
same_of_map w (x ∷ xs) a b d (inr m) (inr k) e = same_of_map w xs a b d.1 m k e

pub wanted_differ : (f : Frame) (v : Volume) (a b : Addr) → Contains (ordinary_entries f v) a → Contains (ordinary_entries f v) b → wanted_id f v a ≡ wanted_id f v b → a ≡ b
wanted_differ f v a b m k e =
    let xs : List Addr = ordinary_entries f v in
    let ids : List (Option ℕ) = map (own f v) xs in
    same_of_map (wanted_id f v) xs a b
    (subst Distinct (wanted_filled f v) (distinct_filled ids (free_among ids) (enough_free ids) (stay_apart f v xs (ordinary_ascend f v) (λ x h. h)) (free_distinct ids) (free_apart ids)))
    (member_of xs a m) (member_of xs b k) e
