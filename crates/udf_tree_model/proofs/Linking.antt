-- The first links of names, the links that fit, and the first of ranks.
use Rattle.std.proofs.Common.{◌≡◌, ℕ, ◌-◌, ◌≤◌, List, [], ◌∷◌, map, Bool, true, false, cond, ◌||◌, Option, Some, None, refl, sym, ap, ◌∙◌, inl, inr, arith, le-leb}
use Rattle.std.specs.Prelude.{nat_le}
use Rattle.std.specs.List.{list_any, filter}
use Rattle.std.specs.Str.{bytes_eq}
use Rattle.std.proofs.lemmas.Bool.{false≢true}
use Rattle.std.proofs.lemmas.Slice.Eq.{bytes_eq-Decides}
use Rattle.udf_tree_model.specs.Link.{Link, name_of, room_of}
use Rattle.udf_tree_model.specs.Chosen.{Rank, first_of_names, fit, first_rank, first_of, comes_before}
use Rattle.udf_tree_model.specs.Mended.{said, rooms}
use Rattle.udf_tree_model.proofs.Members.{Member, any_from, member_filter, member_map, member_of_map, member_along}

abbrev pub names : List Link → List (List ℕ)
names fs = map (λ f. name_of f.says) fs

-- nothing stands twice
abbrev pub Distinct : {X : Type 0} → List X → Type 0
Distinct [] = Unit {0}
Distinct (x ∷ xs) = (Member x xs → ⊥) × Distinct xs

pub name_same : (a b : List ℕ) → bytes_eq a b ≡ true → a ≡ b
name_same a b h = (bytes_eq-Decides a b).0 h

pub same_name : (a b : List ℕ) → a ≡ b → bytes_eq a b ≡ true
same_name a b h = (bytes_eq-Decides a b).1 h

pub first_of_names_member : (seen : List (List ℕ)) (fs : List Link) (f : Link) → Member f (first_of_names seen fs) → Member f fs
unfolding first_of_names
first_of_names_member seen [] f m = m
first_of_names_member seen (g ∷ gs) f m = go (λ h. first_of_names_member seen gs f h) (λ h. first_of_names_member ((name_of g.says) ∷ seen) gs f h) (list_any (bytes_eq (name_of g.says)) seen) m
  where
    go : (Member f (first_of_names seen gs) → Member f gs) → (Member f (first_of_names ((name_of g.says) ∷ seen) gs) → Member f gs) → (b : Bool) → Member f (cond b (first_of_names seen gs) (g ∷ first_of_names ((name_of g.says) ∷ seen) gs)) → Member f (g ∷ gs)
    go i j true h = inr (i h)
    go i j false (inl e) = inl e
    go i j false (inr h) = inr (j h)

pub first_of_names_apart : (seen : List (List ℕ)) (fs : List Link) (f : Link) (n : List ℕ) → Member f (first_of_names seen fs) → Member n seen → (name_of f.says) ≡ n → ⊥
unfolding first_of_names
first_of_names_apart seen [] f n m k e = m
first_of_names_apart seen (g ∷ gs) f n m k e = go (λ h. first_of_names_apart seen gs f n h k e) (λ h. first_of_names_apart ((name_of g.says) ∷ seen) gs f n h (inr k) e) (list_any (bytes_eq (name_of g.says)) seen) refl m
  where
    go : (Member f (first_of_names seen gs) → ⊥) → (Member f (first_of_names ((name_of g.says) ∷ seen) gs) → ⊥) → (b : Bool) → list_any (bytes_eq (name_of g.says)) seen ≡ b → Member f (cond b (first_of_names seen gs) (g ∷ first_of_names ((name_of g.says) ∷ seen) gs)) → ⊥
    go i j true q h = i h
    go i j false q (inl p) = false≢true (sym q ∙ any_from (bytes_eq (name_of g.says)) seen n k (same_name (name_of g.says) n (ap (λ x. (name_of x.says)) (sym p) ∙ e)))
    go i j false q (inr h) = j h

pub first_of_names_distinct : (seen : List (List ℕ)) (fs : List Link) → Distinct (names (first_of_names seen fs))
unfolding first_of_names
first_of_names_distinct seen [] = tt
first_of_names_distinct seen (g ∷ gs) = go (first_of_names_distinct seen gs) (first_of_names_distinct ((name_of g.says) ∷ seen) gs) (list_any (bytes_eq (name_of g.says)) seen)
  where
    apart : Member (name_of g.says) (names (first_of_names ((name_of g.says) ∷ seen) gs)) → ⊥
    apart m = let r = member_of_map (λ (x : Link). (name_of x.says)) (first_of_names ((name_of g.says) ∷ seen) gs) (name_of g.says) m in first_of_names_apart ((name_of g.says) ∷ seen) gs r.0 (name_of g.says) r.1 (inl refl) (sym r.2)

    go : Distinct (names (first_of_names seen gs)) → Distinct (names (first_of_names ((name_of g.says) ∷ seen) gs)) → (b : Bool) → Distinct (names (cond b (first_of_names seen gs) (g ∷ first_of_names ((name_of g.says) ∷ seen) gs)))
    go i j true = i
    go i j false = (apart, j)

pub first_of_names_whole : (seen : List (List ℕ)) (fs : List Link) → Distinct (names fs) → ((f : Link) → Member f fs → list_any (bytes_eq (name_of f.says)) seen ≡ false) → first_of_names seen fs ≡ fs
unfolding first_of_names
first_of_names_whole seen [] d h = refl
first_of_names_whole seen (g ∷ gs) d h = rw (h g (inl refl)) (ap (λ r. g ∷ r) (first_of_names_whole ((name_of g.says) ∷ seen) gs d.1 (λ f m. go f m (bytes_eq (name_of f.says) (name_of g.says)) refl)))
  where
    go : (f : Link) → Member f gs → (b : Bool) → bytes_eq (name_of f.says) (name_of g.says) ≡ b → (b || list_any (bytes_eq (name_of f.says)) seen) ≡ false
    go f m true e = absurd (d.0 (rw (sym (name_same (name_of f.says) (name_of g.says) e)) (member_map (λ (x : Link). (name_of x.says)) gs f m)))
    go f m false e = h f (inr m)

pub fit_member : (n : ℕ) (fs : List Link) (f : Link) → Member f (fit n fs) → Member f fs
unfolding fit
fit_member n [] f m = m
fit_member n (g ∷ gs) f m = go (λ h. fit_member (n - (room_of g.says)) gs f h) (nat_le (room_of g.says) n) m
  where
    go : (Member f (fit (n - (room_of g.says)) gs) → Member f gs) → (b : Bool) → Member f (cond b (g ∷ fit (n - (room_of g.says)) gs) []) → Member f (g ∷ gs)
    go i true (inl e) = inl e
    go i true (inr h) = inr (i h)
    go i false h = absurd h

pub fit_whole : (n : ℕ) (fs : List Link) → rooms fs ≤ n → fit n fs ≡ fs
unfolding fit
fit_whole n [] h = refl
fit_whole n (g ∷ gs) h = rw (le-leb (room_of g.says) n (omega arith)) (ap (λ r. g ∷ r) (fit_whole (n - (room_of g.says)) gs (omega arith)))

names_member : (fs : List Link) (f : Link) → Member f fs → Member (name_of f.says) (names fs)
names_member fs f m = member_map (λ (x : Link). (name_of x.says)) fs f m

distinct_fit : (n : ℕ) (fs : List Link) → Distinct (names fs) → Distinct (names (fit n fs))
unfolding fit
distinct_fit n [] d = tt
distinct_fit n (g ∷ gs) d = go (distinct_fit (n - (room_of g.says)) gs d.1) (nat_le (room_of g.says) n)
  where
    apart : Member (name_of g.says) (names (fit (n - (room_of g.says)) gs)) → ⊥
    apart m = let r = member_of_map (λ (x : Link). (name_of x.says)) (fit (n - (room_of g.says)) gs) (name_of g.says) m in d.0 (rw r.2 (names_member gs r.0 (fit_member (n - (room_of g.says)) gs r.0 r.1)))

    go : Distinct (names (fit (n - (room_of g.says)) gs)) → (b : Bool) → Distinct (names (cond b (g ∷ fit (n - (room_of g.says)) gs) []))
    go i true = (apart, i)
    go i false = tt

distinct_filter : (p : Link → Bool) (fs : List Link) → Distinct (names fs) → Distinct (names (filter p fs))
distinct_filter p [] d = tt
distinct_filter p (g ∷ gs) d = go (distinct_filter p gs d.1) (p g)
  where
    apart : Member (name_of g.says) (names (filter p gs)) → ⊥
    apart m = let r = member_of_map (λ (x : Link). (name_of x.says)) (filter p gs) (name_of g.says) m in d.0 (rw r.2 (names_member gs r.0 (member_filter p gs r.0 r.1).0))

    go : Distinct (names (filter p gs)) → (b : Bool) → Distinct (names (cond b (g ∷ filter p gs) (filter p gs)))
    go i true = (apart, i)
    go i false = i

-- the fitted links have different names
pub distinct_fitted : (n : ℕ) (p : Link → Bool) (fs : List Link) → Distinct (names (fit n (filter p (first_of_names [] fs))))
distinct_fitted n p fs = distinct_fit n (filter p (first_of_names [] fs)) (distinct_filter p (first_of_names [] fs) (first_of_names_distinct [] fs))

pub names_of_said : (fs : List Link) → names fs ≡ map name_of (said fs)
names_of_said [] = refl
names_of_said (f ∷ fs) = ap (λ r. name_of f.says ∷ r) (names_of_said fs)

-- of links with different names the name tells which
pub name_tells : (fs : List Link) → Distinct (names fs) → (f g : Link) → Member f fs → Member g fs → (name_of f.says) ≡ (name_of g.says) → f ≡ g
name_tells [] d f g m k e = absurd m
name_tells (h ∷ hs) d f g (inl i) (inl j) e = i ∙ sym j
name_tells (h ∷ hs) d f g (inl i) (inr k) e = absurd (d.0 (rw (ap (λ x. (name_of x.says)) (sym i) ∙ e) (names_member hs g k)))
name_tells (h ∷ hs) d f g (inr m) (inl j) e = absurd (d.0 (rw (ap (λ x. (name_of x.says)) (sym j) ∙ sym e) (names_member hs f m)))
name_tells (h ∷ hs) d f g (inr m) (inr k) e = name_tells hs d.1 f g m k e

-- a link of one list says what a link of the other says
pub said_there : (fs gs : List Link) → said fs ≡ said gs → (f : Link) → Member f fs → (g : Link) × Member g gs × (f.says ≡ g.says)
said_there fs gs e f m =
    let k : Member f.says (said gs) = rw (sym e) (member_map (λ (x : Link). x.says) fs f m) in
    member_of_map (λ (x : Link). x.says) gs f.says k

pub first_some : (ks : List Rank) (k : Rank) → first_rank ks ≡ Some k → Member k ks
unfolding first_rank
first_some [] k e = cc
first_some (x ∷ xs) k e = go (λ m h. first_some xs m h) (first_rank xs) refl e
  where
    go : ((m : Rank) → first_rank xs ≡ Some m → Member m xs) → (o : Option Rank) → first_rank xs ≡ o → Some (first_of x o) ≡ Some k → Member k (x ∷ xs)
    go ih None q h = inl (cc)
    go ih (Some m) q h = pick (comes_before m x) h
      where
        pick : (b : Bool) → Some (cond b m x) ≡ Some k → Member k (x ∷ xs)
        pick true i = let j : m ≡ k = cc in inr (member_along m k xs j (ih m q))
        pick false i = inl (cc)

-- the first of ranks that are all one rank is that rank
pub first_one : (ks : List Rank) (c : Rank) → Member c ks → ((k : Rank) → Member k ks → k ≡ c) → first_rank ks ≡ Some c
unfolding first_rank
first_one [] c m h = absurd m
first_one (x ∷ xs) c m h = ap Some (h (first_of x (first_rank xs)) (first_some (x ∷ xs) (first_of x (first_rank xs)) refl))
