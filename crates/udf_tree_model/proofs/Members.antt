-- Members of lists, by recursion on the list, and tests of them.
use Rattle.std.proofs.Common.{◌≡◌, ◌⊎◌, ℕ, zero, suc, ◌+◌, ◌≤◌, ◌<◌, List, [], ◌∷◌, ◌++◌, map, length, Bool, true, false, cond, refl, sym, ap, ◌∙◌, subst, inl, inr, arith}
use Rattle.std.specs.Prelude.{Contains}
use Rattle.std.specs.List.{list_any, list_all, filter}
use Rattle.udf_field.specs.declared.address.Addr.{Addr}
use Rattle.std.proofs.lemmas.Bool.{and_parts, and_from, or_cases, or_left, or_right, false≢true}
pub use Rattle.udf_tree_model.specs.Among.{Member}

pub member_of : {X : Type 0} (xs : List X) (x : X) → Contains xs x → Member x xs
member_of [] x (k, low, e) = absurd (omega (arith, low))
member_of (y ∷ ys) x (zero, low, e) = inl (sym e)
member_of (y ∷ ys) x (suc k, low, e) = inr (member_of ys x (k, omega (arith, low), e))

pub contains_of : {X : Type 0} (xs : List X) (x : X) → Member x xs → Contains xs x
contains_of [] x m = absurd m
contains_of (y ∷ ys) x (inl e) = (0, omega arith, sym e)
contains_of (y ∷ ys) x (inr m) = let r = contains_of ys x m in (suc r.0, omega (arith, r.1), r.2)

pub same_bools : (x y : Bool) → (x ≡ true → y ≡ true) → (y ≡ true → x ≡ true) → x ≡ y
same_bools true y f g = sym (f refl)
same_bools false true f g = g refl
same_bools false false f g = refl

pub member_along : {X : Type 0} (x y : X) (xs : List X) → x ≡ y → Member x xs → Member y xs
member_along {X} x y xs e m = let P : X → Type 0 = λ z. Member z xs in subst P e m

pub any_gives : {X : Type 0} (p : X → Bool) (xs : List X) → list_any p xs ≡ true → (x : X) × Member x xs × (p x ≡ true)
any_gives p [] h = absurd (false≢true h)
any_gives {X} p (x ∷ xs) h = go (λ e. any_gives p xs e) (or_cases (p x) (list_any p xs) h)
  where
    go : (list_any p xs ≡ true → (y : X) × Member y xs × (p y ≡ true)) → (p x ≡ true) ⊎ (list_any p xs ≡ true) → (y : X) × Member y (x ∷ xs) × (p y ≡ true)
    go ih (inl e) = (x, inl refl, e)
    go ih (inr e) = let r = ih e in (r.0, inr r.1, r.2)

pub any_from : {X : Type 0} (p : X → Bool) (xs : List X) (x : X) → Member x xs → p x ≡ true → list_any p xs ≡ true
any_from p [] x m h = absurd m
any_from p (y ∷ ys) x (inl e) h = or_left (p y) (list_any p ys) (ap p (sym e) ∙ h)
any_from p (y ∷ ys) x (inr m) h = or_right (p y) (list_any p ys) (any_from p ys x m h)

pub all_at : {X : Type 0} (p : X → Bool) (xs : List X) (x : X) → list_all p xs ≡ true → Member x xs → p x ≡ true
all_at p [] x h m = absurd m
all_at p (y ∷ ys) x h (inl e) = ap p e ∙ (and_parts (p y) (list_all p ys) h).0
all_at p (y ∷ ys) x h (inr m) = all_at p ys x (and_parts (p y) (list_all p ys) h).1 m

pub all_from : {X : Type 0} (p : X → Bool) (xs : List X) → ((x : X) → Member x xs → p x ≡ true) → list_all p xs ≡ true
all_from p [] h = refl
all_from p (y ∷ ys) h = and_from (p y) (list_all p ys) (h y (inl refl)) (all_from p ys (λ x m. h x (inr m)))

pub member_append : {X : Type 0} (xs ys : List X) (x : X) → Member x (xs ++ ys) → Member x xs ⊎ Member x ys
member_append [] ys x m = inr m
member_append (z ∷ zs) ys x (inl e) = inl (inl e)
member_append (z ∷ zs) ys x (inr m) = go (member_append zs ys x m)
  where
    go : Member x zs ⊎ Member x ys → Member x (z ∷ zs) ⊎ Member x ys
    go (inl h) = inl (inr h)
    go (inr h) = inr h

pub member_left : {X : Type 0} (xs ys : List X) (x : X) → Member x xs → Member x (xs ++ ys)
member_left [] ys x m = absurd m
member_left (z ∷ zs) ys x (inl e) = inl e
member_left (z ∷ zs) ys x (inr m) = inr (member_left zs ys x m)

pub member_right : {X : Type 0} (xs ys : List X) (x : X) → Member x ys → Member x (xs ++ ys)
member_right [] ys x m = m
member_right (z ∷ zs) ys x m = inr (member_right zs ys x m)

pub member_map : {X Y : Type 0} (f : X → Y) (xs : List X) (x : X) → Member x xs → Member (f x) (map f xs)
member_map f [] x m = absurd m
member_map f (z ∷ zs) x (inl e) = inl (ap f e)
member_map f (z ∷ zs) x (inr m) = inr (member_map f zs x m)

pub member_of_map : {X Y : Type 0} (f : X → Y) (xs : List X) (y : Y) → Member y (map f xs) → (x : X) × Member x xs × (y ≡ f x)
member_of_map f [] y m = absurd m
member_of_map f (z ∷ zs) y (inl e) = (z, inl refl, e)
member_of_map f (z ∷ zs) y (inr m) = let r = member_of_map f zs y m in (r.0, inr r.1, r.2)

pub member_filter : {X : Type 0} (p : X → Bool) (xs : List X) (x : X) → Member x (filter p xs) → Member x xs × (p x ≡ true)
member_filter p [] x m = absurd m
member_filter p (z ∷ zs) x m = go (λ h. member_filter p zs x h) (p z) refl m
  where
    go : (Member x (filter p zs) → Member x zs × (p x ≡ true)) → (b : Bool) → p z ≡ b → Member x (cond b (z ∷ filter p zs) (filter p zs)) → Member x (z ∷ zs) × (p x ≡ true)
    go ih true e (inl h) = (inl h, ap p h ∙ e)
    go ih true e (inr h) = let r = ih h in (inr r.0, r.1)
    go ih false e h = let r = ih h in (inr r.0, r.1)

pub member_filtered : {X : Type 0} (p : X → Bool) (xs : List X) (x : X) → Member x xs → p x ≡ true → Member x (filter p xs)
member_filtered p [] x m h = absurd m
member_filtered p (z ∷ zs) x (inl e) h = rw (ap p (sym e) ∙ h) (inl e)
member_filtered p (z ∷ zs) x (inr m) h = go (member_filtered p zs x m h) (p z)
  where
    go : Member x (filter p zs) → (b : Bool) → Member x (cond b (z ∷ filter p zs) (filter p zs))
    go ih true = inr ih
    go ih false = ih

pub filter_all : {X : Type 0} (p : X → Bool) (xs : List X) → ((x : X) → Member x xs → p x ≡ true) → filter p xs ≡ xs
filter_all p [] h = refl
filter_all p (z ∷ zs) h = rw (h z (inl refl)) (ap (λ r. z ∷ r) (filter_all p zs (λ x m. h x (inr m))))

-- how many pass the test
unfoldable pub tally : {X : Type 0} → (X → Bool) → List X → ℕ
tally p [] = 0
tally p (x ∷ xs) = cond (p x) 1 0 + tally p xs

pub tally_length : {X : Type 0} (p : X → Bool) (xs : List X) → tally p xs ≤ length xs
unfolding tally
tally_length p [] = omega arith
tally_length p (x ∷ xs) = go (tally_length p xs) (p x)
  where
    go : tally p xs ≤ length xs → (b : Bool) → cond b 1 0 + tally p xs ≤ length (x ∷ xs)
    go ih true = omega arith
    go ih false = omega arith

abbrev AgreeOn : (Addr → Bool) → (Addr → Bool) → List Addr → Type 0
AgreeOn p q xs = (x : Addr) → Member x xs → q x ≡ p x

grows_step : (p q : Addr → Bool) (y : Addr) (ys : List Addr) (up : p y ≡ true → q y ≡ true) (b c : Bool) → p y ≡ b → q y ≡ c → (m n : ℕ) → (m ≤ n) × (AgreeOn p q ys ⊎ (m < n)) → (cond b 1 0 + m ≤ cond c 1 0 + n) × (AgreeOn p q (y ∷ ys) ⊎ (cond b 1 0 + m < cond c 1 0 + n))
grows_step p q y ys up true false e f m n r = absurd (false≢true (sym f ∙ up e))
grows_step p q y ys up false true e f m n r = let l = r.0 in (omega arith, inr (omega arith))
grows_step p q y ys up true true e f m n (l, inl h) = (omega arith, inl same)
  where
    same : (x : Addr) → Member x (y ∷ ys) → q x ≡ p x
    same x (inl i) = ap q i ∙ f ∙ sym e ∙ ap p (sym i)
    same x (inr k) = h x k
grows_step p q y ys up true true e f m n (l, inr h) = (omega arith, inr (omega arith))
grows_step p q y ys up false false e f m n (l, inl h) = (omega arith, inl same)
  where
    same : (x : Addr) → Member x (y ∷ ys) → q x ≡ p x
    same x (inl i) = ap q i ∙ f ∙ sym e ∙ ap p (sym i)
    same x (inr k) = h x k
grows_step p q y ys up false false e f m n (l, inr h) = (omega arith, inr (omega arith))

-- of two tests of which the second passes more: they agree on the list, or the second passes one more there
pub tally_grows : (p q : Addr → Bool) → ((x : Addr) → p x ≡ true → q x ≡ true) → (xs : List Addr) → (tally p xs ≤ tally q xs) × (((x : Addr) → Member x xs → q x ≡ p x) ⊎ (tally p xs < tally q xs))
unfolding tally
tally_grows p q up [] = (omega arith, inl (λ x m. absurd m))
tally_grows p q up (y ∷ ys) = grows_step p q y ys (up y) (p y) (q y) refl refl (tally p ys) (tally q ys) (tally_grows p q up ys)
