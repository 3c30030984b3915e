-- Filling the places of a list that have no identifier with the free ones in turn.
use Rattle.std.proofs.Common.{◌≡◌, ◌⊎◌, ℕ, zero, suc, ◌+◌, ◌<◌, ◌≤◌, List, [], ◌∷◌, ◌++◌, length, get_or, drop, Bool, true, false, not, cond, ◌||◌, nat_eq, refl, sym, ap, ◌∙◌, inl, inr, subst, arith, Option, Some, None}
use Rattle.std.specs.Prelude.{count_by, filter, is_some, is_none, slice_index}
use Rattle.std.specs.List.{list_any, range_with_len}
use Rattle.std.proofs.lemmas.Bool.{cases_lt}
use Rattle.std.proofs.lemmas.Bool.Decides.{nat_tests}
use Rattle.std.proofs.lemmas.List.{append-nil, append_assoc, drop_more, drop_all}
use Rattle.std.proofs.lemmas.List.Filters.{length-filter_both}
use Rattle.std.proofs.lemmas.List.Sums.{length-filter}
use Rattle.std.proofs.lemmas.List.FromFn.{length-range_with_len}
use Rattle.udf_kept.proofs.Counted.{count_one}
use Rattle.udf_dues.specs.Identifiers.{is_id, is_taken, free_among, filled, Chooses}

-- how many of a run of numbers pass one test or another
count_either : (p q : ℕ → Bool) (xs : List ℕ) → count_by (λ n. p n || q n) xs ≤ count_by p xs + count_by q xs
count_either p q [] = omega arith
count_either p q (x ∷ xs) =
    let a = count_one (λ n. p n || q n) x xs in
    let b = count_one p x xs in
    let c = count_one q x xs in
    let d = one (p x) (q x) in
    let e = count_either p q xs in
    omega (arith, a, b, c, d, e)
  where
    one : (b c : Bool) → cond (b || c) 1 0 ≤ cond b 1 0 + cond c 1 0
    one true true = omega arith
    one true false = omega arith
    one false true = omega arith
    one false false = omega arith

none_above : (m a n : ℕ) → m < a → count_by (λ q. nat_eq q m) (range_with_len a n) ≡ 0
none_above m a zero l = refl
none_above m a (suc n) l =
    let other : nat_eq a m ≡ false = grind (arith, nat_tests) in
    let none : cond {A = ℕ} (nat_eq a m) 1 0 ≡ 0 = ap (λ (b : Bool). cond b 1 0) other in
    let rest = none_above m (a + 1) n (omega arith) in
    let step = count_one (λ q. nat_eq q m) a (range_with_len (a + 1) n) in
    omega (arith, none, rest, step)

-- a number stands in a run once at most
one_in_run : (m a n : ℕ) → count_by (λ q. nat_eq q m) (range_with_len a n) ≤ 1
one_in_run m a zero = omega arith
one_in_run m a (suc n) = go (one_in_run m (a + 1) n) (count_one (λ q. nat_eq q m) a (range_with_len (a + 1) n)) (nat_eq a m) refl
  where
    rest : ℕ
    rest = count_by (λ q. nat_eq q m) (range_with_len (a + 1) n)

    go : rest ≤ 1 → count_by (λ q. nat_eq q m) (a ∷ range_with_len (a + 1) n) ≡ cond (nat_eq a m) 1 0 + rest → (b : Bool) → nat_eq a m ≡ b
        → count_by (λ q. nat_eq q m) (a ∷ range_with_len (a + 1) n) ≤ 1
    go h step true e =
        let same : a ≡ m = grind (arith, nat_tests) in
        let z : rest ≡ 0 = none_above m (a + 1) n (omega arith) in
        let one : cond {A = ℕ} (nat_eq a m) 1 0 ≡ 1 = ap (λ (b : Bool). cond b 1 0) e in
        omega (arith, step, z, one)
    go h step false e =
        let none : cond {A = ℕ} (nat_eq a m) 1 0 ≡ 0 = ap (λ (b : Bool). cond b 1 0) e in
        omega (arith, step, none, h)

none_taken : (a n : ℕ) → count_by (λ q. false) (range_with_len a n) ≡ 0
none_taken a zero = refl
none_taken a (suc n) = let step = count_one (λ q. false) a (range_with_len (a + 1) n) in let rest = none_taken (a + 1) n in omega (arith, step, rest)

-- of a run of numbers as many are taken as identifiers stay, at most
few_taken : (ids : List (Option ℕ)) (a n : ℕ) → count_by (λ q. list_any (is_id q) ids) (range_with_len a n) ≤ count_by is_some ids
few_taken [] a n = let z = none_taken a n in omega arith
few_taken (None ∷ ids) a n = let c = count_one is_some None ids in let more = few_taken ids a n in omega (arith, c, more)
few_taken (Some m ∷ ids) a n =
    let c = count_one is_some (Some m) ids in
    let e : count_by (λ q. list_any (is_id q) (Some m ∷ ids)) (range_with_len a n) ≤ count_by (λ q. nat_eq q m) (range_with_len a n) + count_by (λ q. list_any (is_id q) ids) (range_with_len a n)
    = count_either (λ q. nat_eq q m) (λ q. list_any (is_id q) ids) (range_with_len a n) in
    let one = one_in_run m a n in
    let more = few_taken ids a n in
    omega (arith, c, e, one, more)

some_or_none : (ids : List (Option ℕ)) → count_by is_some ids + count_by is_none ids ≡ length ids
some_or_none [] = refl
some_or_none (None ∷ ids) = let h = some_or_none ids in let a = count_one is_some None ids in let b = count_one is_none None ids in omega (arith, h, a, b)
some_or_none (Some m ∷ ids) = let h = some_or_none ids in let a = count_one is_some (Some m) ids in let b = count_one is_none (Some m) ids in omega (arith, h, a, b)

-- there is a free identifier for each that has none
pub enough_free : (ids : List (Option ℕ)) → count_by is_none ids ≤ length (free_among ids)
unfolding free_among
enough_free ids =
    let run : List ℕ = range_with_len 16 (length ids) in
    let both = length-filter_both (λ q. is_taken ids q) (λ q. not (is_taken ids q)) (λ q. refl) run in
    let long = length-range_with_len 16 (length ids) in
    let count = length-filter (λ q. is_taken ids q) run in
    let few = few_taken ids 16 (length ids) in
    let all = some_or_none ids in
    omega arith

-- the first of a run that passes
pub record First (p : ℕ → Bool) (m : ℕ) (end : ℕ) (found : List ℕ) : Type 0 where
  pub left : ℕ
  pub ends : m + 1 + left ≡ end
  pub is : found ≡ m ∷ filter p (range_with_len (m + 1) left)

first_in_run : (p : ℕ → Bool) (a n m : ℕ) → a ≤ m → p m ≡ true → ((k : ℕ) → a ≤ k → k < m → p k ≡ false) → 1 ≤ length (filter p (range_with_len a n)) → First p m (a + n) (filter p (range_with_len a n))
first_in_run p a zero m l t f e = absurd (omega arith)
first_in_run p a (suc n) m l t f e = go (cases_lt a m) (λ x y. first_in_run p (a + 1) n m x t (λ j i k. f j (omega (arith, i)) k) y)
  where
    run : List ℕ
    run = filter p (range_with_len (a + 1) n)

    go : (a < m) ⊎ (m ≤ a) → (a + 1 ≤ m → 1 ≤ length run → First p m (a + 1 + n) run) → First p m (a + suc n) (cond (p a) (a ∷ run) run)
    go (inl k) more =
        let no : p a ≡ false = f a (omega arith) k in
        let same : cond (p a) (a ∷ run) run ≡ run = ap (λ (b : Bool). cond b (a ∷ run) run) no in
        let r = more (omega (arith, k)) (subst (λ (xs : List ℕ). 1 ≤ length xs) same e) in
        let ends = r.ends in
        record { left = r.left; ends = omega (arith, ends); is = same ∙ r.is }
    go (inr k) more =
        let here : a ≡ m = omega arith in
        let yes : p a ≡ true = ap p here ∙ t in
        record {
          left = n;
          ends = omega arith;
          is = ap (λ (b : Bool). cond b (a ∷ run) run) yes ∙ ap (λ (j : ℕ). j ∷ filter p (range_with_len (j + 1) n)) here;
        }

-- the wanted identifiers so far: the rest comes of the free ones from the next number on, of which there are enough
pub record State (ids : List (Option ℕ)) (i next : ℕ) (out : List ℕ) : Type 0 where
  pub left : ℕ
  pub ends : next + left ≡ 16 + length ids
  pub enough : count_by is_none (drop i ids) ≤ length (filter (λ n. not (is_taken ids n)) (range_with_len next left))
  pub rest : out ++ filled (drop i ids) (filter (λ n. not (is_taken ids n)) (range_with_len next left)) ≡ filled ids (free_among ids)

pub filling_begins : (ids : List (Option ℕ)) → State ids 0 16 []
unfolding free_among
filling_begins ids = record { left = length ids; ends = refl; enough = enough_free ids; rest = refl }

pub filling_ends : (ids : List (Option ℕ)) (i next : ℕ) (out : List ℕ) → length ids ≤ i → State ids i next out → out ≡ filled ids (free_among ids)
filling_ends ids i next out l s =
    sym (append-nil out) ∙ sym (ap (λ (r : List (Option ℕ)). out ++ filled r (filter (λ n. not (is_taken ids n)) (range_with_len next s.left))) (drop_all i ids l)) ∙ s.rest

pub filling_more : (ids : List (Option ℕ)) (taken : ℕ → Bool) (i next new n : ℕ) (out : List ℕ) → ((q : ℕ) → taken q ≡ is_taken ids q) → i < length ids
    → Chooses taken (get_or ids i None) next new n → State ids i next out → State ids (i + 1) new (out ++ n ∷ [])
filling_more ids taken i next new n out same l h s = go (get_or ids i None) (drop_more ids i None l) h
  where
    p : ℕ → Bool
    p q = not (is_taken ids q)

    run : List ℕ
    run = filter p (range_with_len next s.left)

    rest : List (Option ℕ)
    rest = drop (i + 1) ids

    joined : (o : Option ℕ) (free : List ℕ) → drop i ids ≡ o ∷ rest → filled (o ∷ rest) run ≡ n ∷ filled rest free → (out ++ n ∷ []) ++ filled rest free ≡ filled ids (free_among ids)
    joined o free d e =
        append_assoc out (n ∷ []) (filled rest free) ∙ ap (λ (xs : List ℕ). out ++ xs) (sym e) ∙ sym (ap (λ (r : List (Option ℕ)). out ++ filled r run) d) ∙ s.rest

    enough : (o : Option ℕ) → drop i ids ≡ o ∷ rest → count_by is_none (o ∷ rest) ≤ length run
    enough o d = subst (λ (r : List (Option ℕ)). count_by is_none r ≤ length run) d s.enough

    go : (o : Option ℕ) → drop i ids ≡ o ∷ rest → Chooses taken o next new n → State ids (i + 1) new (out ++ n ∷ [])
    go (Some id) d c = subst (λ (k : ℕ). State ids (i + 1) k (out ++ n ∷ [])) (sym c.next) (record {
      left = s.left;
      ends = s.ends;
      enough = (let c = count_one is_none (Some id) rest in let all = enough (Some id) d in omega (arith, c, all));
      rest = joined (Some id) run d (ap (λ (k : ℕ). k ∷ filled rest run) (sym c.own));
    })
    go None d c =
        let more : 1 + count_by is_none rest ≤ length run = (let c = count_one is_none None rest in let all = enough None d in omega (arith, c, all)) in
        let first = first_in_run p next s.left n c.low (ap not (sym (same n) ∙ c.free)) (λ k x y. ap not (sym (same k) ∙ c.between k x y)) (omega (arith, more)) in
        let free : List ℕ = filter p (range_with_len (n + 1) first.left) in
        let long : 1 + count_by is_none rest ≤ suc (length free) = subst (λ (xs : List ℕ). 1 + count_by is_none rest ≤ length xs) first.is more in
        subst (λ (k : ℕ). State ids (i + 1) k (out ++ n ∷ [])) (sym (c.next ∙ up)) (record {
          left = first.left;
          ends = first.ends ∙ s.ends;
          enough = omega (arith, long);
          rest = joined None free d (ap (λ (xs : List ℕ). slice_index xs 0 ∷ filled rest (drop 1 xs)) first.is);
        })
      where
        up : suc n ≡ n + 1
        up = omega arith
