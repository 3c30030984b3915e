-- Lists, tests and members.
use Rattle.std.proofs.Common.{◌≡◌, ℕ, zero, suc, ◌+◌, ◌<◌, ◌≤◌, arith, refl, sym, ◌∙◌, ap, List, [], ◌∷◌, ◌++◌, map, Bool, true, false, cond, not, ◌&&◌, get_or, length, Some, inl, inr, ◌⊎◌}
use Rattle.std.specs.Prelude.{slice_get}
use Rattle.std.specs.List.{list_all, list_any, filter, find, range_with_len}
use Rattle.std.proofs.lemmas.Bool.{and_parts, and_from, or_cases, cases_lt}

abbrev pub IsIn : {X : Type 0} → X → List X → Type 0
IsIn n [] = ⊥
IsIn n (x ∷ xs) = (n ≡ x) ⊎ IsIn n xs

pub all_at : {X : Type 0} (test : X → Bool) (xs : List X) (n : X) → list_all test xs ≡ true → IsIn n xs → test n ≡ true
all_at test [] n e i = absurd i
all_at test (x ∷ xs) n e (inl i) = ap test i ∙ (and_parts (test x) (list_all test xs) e).0
all_at test (x ∷ xs) n e (inr i) = all_at test xs n (and_parts (test x) (list_all test xs) e).1 i

pub all_from : {X : Type 0} (test : X → Bool) (xs : List X) → ((n : X) → IsIn n xs → test n ≡ true) → list_all test xs ≡ true
all_from test [] h = refl
all_from test (x ∷ xs) h = and_from _ _ (h x (inl refl)) (all_from test xs (λ n i. h n (inr i)))

pub kept_in : {X : Type 0} (test : X → Bool) (xs : List X) (n : X) → IsIn n (filter test xs) → IsIn n xs × (test n ≡ true)
kept_in test [] n i = absurd i
kept_in test (x ∷ xs) n i = by_test (kept_in test xs n) (test x) refl i where
  by_test : (IsIn n (filter test xs) → IsIn n xs × (test n ≡ true)) → (b : Bool) → test x ≡ b
      → IsIn n (cond b (x ∷ filter test xs) (filter test xs)) → IsIn n (x ∷ xs) × (test n ≡ true)
  by_test rest true e (inl here) = (inl here, ap test here ∙ e)
  by_test rest true e (inr later) = (inr (rest later).0, (rest later).1)
  by_test rest false e later = (inr (rest later).0, (rest later).1)

pub in_kept : {X : Type 0} (test : X → Bool) (xs : List X) (n : X) → IsIn n xs → test n ≡ true → IsIn n (filter test xs)
in_kept test [] n i t = absurd i
in_kept test (x ∷ xs) n i t = by_test (in_kept test xs n) (test x) refl i where
  by_test : (IsIn n xs → test n ≡ true → IsIn n (filter test xs)) → (b : Bool) → test x ≡ b → IsIn n (x ∷ xs)
      → IsIn n (cond b (x ∷ filter test xs) (filter test xs))
  by_test rest true e (inl here) = inl here
  by_test rest true e (inr later) = inr (rest later t)
  by_test rest false e (inl here) = let other : test n ≡ false = ap test here ∙ e in absurd (cc)
  by_test rest false e (inr later) = rest later t

pub same_filter : (p q : ℕ → Bool) (xs : List ℕ) → ((n : ℕ) → IsIn n xs → p n ≡ q n) → filter p xs ≡ filter q xs
same_filter p q [] h = refl
same_filter p q (x ∷ xs) h =
    let rest : filter p xs ≡ filter q xs = same_filter p q xs (λ n i. h n (inr i)) in
    ap (λ b. cond b (x ∷ filter p xs) (filter p xs)) (h x (inl refl)) ∙ ap (λ r. cond (q x) (x ∷ r) r) rest

pub same_all : (p q : ℕ → Bool) (xs : List ℕ) → ((n : ℕ) → IsIn n xs → p n ≡ q n) → list_all p xs ≡ list_all q xs
same_all p q [] h = refl
same_all p q (x ∷ xs) h =
    let first : p x ≡ q x = h x (inl refl) in
    let rest : list_all p xs ≡ list_all q xs = same_all p q xs (λ n i. h n (inr i)) in
    cc

-- where not all pass, one fails
pub fails_at : {X : Type 0} (test : X → Bool) (xs : List X) → list_all test xs ≡ false → (k : ℕ) × (x : X) × (slice_get xs k ≡ Some x) × (test x ≡ false)
fails_at {X = X} test [] e = absurd (cc)
fails_at {X = X} test (x ∷ xs) e = by_test (fails_at test xs) (test x) refl e where
  by_test : (list_all test xs ≡ false → (k : ℕ) × (y : X) × (slice_get xs k ≡ Some y) × (test y ≡ false)) → (b : Bool) → test x ≡ b → (b && list_all test xs) ≡ false
      → (k : ℕ) × (y : X) × (slice_get (x ∷ xs) k ≡ Some y) × (test y ≡ false)
  by_test rest true t f = let r = rest f in (suc r.0, r.1, r.2, r.3)
  by_test rest false t f = (0, x, refl, t)

-- members of two lists
pub in_front : {X : Type 0} (xs ys : List X) (n : X) → IsIn n xs → IsIn n (xs ++ ys)
in_front [] ys n i = absurd i
in_front (x ∷ xs) ys n (inl i) = inl i
in_front (x ∷ xs) ys n (inr i) = inr (in_front xs ys n i)

pub in_back : {X : Type 0} (xs ys : List X) (n : X) → IsIn n ys → IsIn n (xs ++ ys)
in_back [] ys n i = i
in_back (x ∷ xs) ys n i = inr (in_back xs ys n i)

pub in_either : {X : Type 0} (xs ys : List X) (n : X) → IsIn n (xs ++ ys) → IsIn n xs ⊎ IsIn n ys
in_either [] ys n i = inr i
in_either (x ∷ xs) ys n (inl i) = inl (inl i)
in_either {X = X} (x ∷ xs) ys n (inr i) = by_part (in_either xs ys n i) where
  by_part : IsIn n xs ⊎ IsIn n ys → IsIn n (x ∷ xs) ⊎ IsIn n ys
  by_part (inl j) = inl (inr j)
  by_part (inr j) = inr j

-- of what a list is mapped to
pub mapped_in : {X Y : Type 0} (f : X → Y) (xs : List X) (x : X) → IsIn x xs → IsIn (f x) (map f xs)
mapped_in f [] x i = absurd i
mapped_in f (y ∷ xs) x (inl i) = inl (ap f i)
mapped_in f (y ∷ xs) x (inr i) = inr (mapped_in f xs x i)

pub mapped_from : {X Y : Type 0} (f : X → Y) (xs : List X) (y : Y) → IsIn y (map f xs) → (x : X) × IsIn x xs × (y ≡ f x)
mapped_from f [] y i = absurd i
mapped_from f (x ∷ xs) y (inl i) = (x, inl refl, i)
mapped_from f (x ∷ xs) y (inr i) = let r = mapped_from f xs y i in (r.0, inr r.1, r.2)

-- of a range
pub in_range : (count start n : ℕ) → start ≤ n → n < start + count → IsIn n (range_with_len start count)
in_range zero start n l h = absurd (omega arith)
in_range (suc count) start n l h = by_order (in_range count (start + 1) n) (cases_lt start n) where
  by_order : (start + 1 ≤ n → n < start + 1 + count → IsIn n (range_with_len (start + 1) count)) → (start < n) ⊎ (n ≤ start) → IsIn n (start ∷ range_with_len (start + 1) count)
  by_order rest (inl k) = inr (rest (omega arith) (omega arith))
  by_order rest (inr k) = inl (let e : n ≡ start = omega arith in e)

pub range_in : (count start n : ℕ) → IsIn n (range_with_len start count) → (start ≤ n) × (n < start + count)
range_in zero start n i = absurd i
range_in (suc count) start n (inl e) = (omega arith, omega arith)
range_in (suc count) start n (inr i) = let r = range_in count (start + 1) n i in (omega (arith, r.0), omega (arith, r.1))

-- by their index
pub at_index : (xs : List ℕ) (i : ℕ) → i < length xs → IsIn (get_or xs i 0) xs
at_index [] i h = absurd (omega arith)
at_index (x ∷ xs) zero h = inl refl
at_index (x ∷ xs) (suc i) h = inr (at_index xs i (omega arith))

pub index_of : (xs : List ℕ) (x : ℕ) → IsIn x xs → (i : ℕ) × (i < length xs) × (get_or xs i 0 ≡ x)
index_of [] x i = absurd i
index_of (y ∷ xs) x (inl e) = (0, omega arith, sym e)
index_of (y ∷ xs) x (inr i) = let r = index_of xs x i in (suc r.0, omega (arith, r.1), r.2)

-- the first that passes is one that passes, and there is a first where one passes
pub find_passes : {X : Type 0} (test : X → Bool) (xs : List X) (x : X) → find test xs ≡ Some x → IsIn x xs × (test x ≡ true)
find_passes test [] x e = absurd (cc)
find_passes {X = X} test (y ∷ xs) x e = by_test (find_passes test xs x) (test y) refl e where
  by_test : (find test xs ≡ Some x → IsIn x xs × (test x ≡ true)) → (b : Bool) → test y ≡ b → cond b (Some y) (find test xs) ≡ Some x → IsIn x (y ∷ xs) × (test x ≡ true)
  by_test rest true t f = let is : y ≡ x = cc in (inl (sym is), ap test (sym is) ∙ t)
  by_test rest false t f = let r = rest f in (inr r.0, r.1)

pub find_some : {X : Type 0} (test : X → Bool) (xs : List X) (x : X) → IsIn x xs → test x ≡ true → (y : X) × (find test xs ≡ Some y)
find_some test [] x i t = absurd i
find_some {X = X} test (y ∷ xs) x i t = by_test (find_some test xs x) (test y) refl i where
  by_test : (IsIn x xs → test x ≡ true → (z : X) × (find test xs ≡ Some z)) → (b : Bool) → test y ≡ b → IsIn x (y ∷ xs) → (z : X) × (cond b (Some y) (find test xs) ≡ Some z)
  by_test rest true e j = (y, refl)
  by_test rest false e (inl here) = let f : test x ≡ false = ap test here ∙ e in absurd (cc)
  by_test rest false e (inr later) = rest later t

pub same_find : {X : Type 0} (p q : X → Bool) (xs : List X) → ((x : X) → IsIn x xs → p x ≡ q x) → find p xs ≡ find q xs
same_find p q [] h = refl
same_find p q (x ∷ xs) h =
    ap (λ b. cond b (Some x) (find p xs)) (h x (inl refl)) ∙ ap (cond (q x) (Some x)) (same_find p q xs (λ n i. h n (inr i)))

pub none_kept : {X : Type 0} (test : X → Bool) (xs : List X) → ((x : X) → IsIn x xs → test x ≡ true) → filter (λ x. not (test x)) xs ≡ []
none_kept test [] h = refl
none_kept test (x ∷ xs) h =
    ap (λ b. cond (not b) (x ∷ filter (λ y. not (test y)) xs) (filter (λ y. not (test y)) xs)) (h x (inl refl)) ∙ none_kept test xs (λ n i. h n (inr i))

pub any_passes : {X : Type 0} (test : X → Bool) (xs : List X) → list_any test xs ≡ true → (x : X) × IsIn x xs × (test x ≡ true)
any_passes test [] e = absurd (cc)
any_passes {X = X} test (x ∷ xs) e = by_test (any_passes test xs) (or_cases (test x) (list_any test xs) e) where
  by_test : (list_any test xs ≡ true → (y : X) × IsIn y xs × (test y ≡ true)) → (test x ≡ true) ⊎ (list_any test xs ≡ true) → (y : X) × IsIn y (x ∷ xs) × (test y ≡ true)
  by_test rest (inl t) = (x, inl refl, t)
  by_test rest (inr t) = let r = rest t in (r.0, inr r.1, r.2)
