-- The first of the links to an entry.
use Rattle.std.proofs.Common.{◌≡◌, ◌⊎◌, eqb-true, ℕ, zero, suc, ◌+◌, ◌<◌, ◌≤◌, List, [], ◌∷◌, ◌++◌, length, map, get_or, set, take, replicate, Bool, true, false, nat_eq, refl, sym, ap, ◌∙◌, inl, inr, subst, arith, Option, Some, None}
use Rattle.std.specs.Prelude.{slice_get}
use Rattle.std.proofs.lemmas.Bool.{cases_lt, eqb-false, false≢true}
use Rattle.std.proofs.lemmas.Bool.Decides.{nat_tests}
use Rattle.std.proofs.lemmas.List.{append_assoc, append-nil, length-set, take_more, map-append, get_or-set_same, get_or-set_other}
use Rattle.udf_tree_model.specs.Among.{Member}
use Rattle.udf_tree_model.specs.Chosen.{Rank, comes_before}
use Rattle.udf_tree_model.proofs.Members.{member_append, member_left, member_map, member_of_map, member_right}
use Rattle.udf_kept.proofs.Layering.{none_there}
use Rattle.udf_kept.specs.FirstLinks.{HasFirst, IsFirst, Told, links_at, links_below, links_by, rank_seen, told, told_by, yields}
use Rattle.udf_file_model.specs.Address.{addr}
use Rattle.udf_kept.specs.declared.fitted.Fitted.{Fitted}
use Rattle.udf_kept.specs.declared.fitted.Selected.{Selected}
use Rattle.udf_held.specs.declared.held.Held.{Held}
use Rattle.udf_kept.specs.declared.first_links.KeepingLink.{KeepingLink}

-- ---- the order of ranks
pub before_self : (x : Rank) → comes_before x x ≡ false
unfolding comes_before
before_self x = grind (arith, nat_tests)

pub before_along : (x y z : Rank) → comes_before x y ≡ false → comes_before y z ≡ false → comes_before x z ≡ false
unfolding comes_before
before_along x y z h k = grind (arith, nat_tests)

pub before_one : (x y : Rank) → comes_before x y ≡ true → comes_before y x ≡ false
unfolding comes_before
before_one x y h = grind (arith, nat_tests)

same_link : (x y : KeepingLink) → Some x ≡ Some y → x ≡ y
same_link x y e = cc

none_link : (x : KeepingLink) → None ≡ Some x → ⊥
none_link x e = cc

-- ---- one link more
module _ (done : List Told) (first : List (Option KeepingLink)) (i : ℕ) (x : KeepingLink) where
  pub link_taken : i < length first → yields (get_or first i None) x ≡ true → IsFirst done first → IsFirst (done ++ told i x ∷ []) (set first i (Some x))
  link_taken l y h = record {
    there = λ j k e. there j k e (nat_eq j i) refl;
    low = λ j k m b. low j k (member_append done (told i x ∷ []) (told j k) m) (omega (arith, b, length-set first i (Some x)));
  }
    where
      new : List (Option KeepingLink)
      new = set first i (Some x)

      here : get_or new i None ≡ Some x
      here = get_or-set_same first i (Some x) None l

      there : (j : ℕ) (k : KeepingLink) → get_or new j None ≡ Some k → (b : Bool) → nat_eq j i ≡ b → Member (told j k) (done ++ told i x ∷ [])
      there j k e true t =
          let same : j ≡ i = eqb-true j i t in
          let link : x ≡ k = same_link x k (sym here ∙ ap (λ (n : ℕ). get_or new n None) (sym same) ∙ e) in
          member_right done (told i x ∷ []) (told j k) (inl (ap (λ (n : ℕ). told n k) same ∙ ap (told i) (sym link)))
      there j k e false t = member_left done (told i x ∷ []) (told j k) (h.there j k (sym (get_or-set_other first i j (Some x) None (eqb-false j i t)) ∙ e))

      older : (k : KeepingLink) → HasFirst first i k → comes_before (rank_seen k) (rank_seen x) ≡ false
      older k r =
          let z : comes_before (rank_seen x) (rank_seen r.0) ≡ true = sym (ap (λ (o : Option KeepingLink). yields o x) r.1) ∙ y in
          before_along (rank_seen k) (rank_seen r.0) (rank_seen x) r.2 (before_one (rank_seen x) (rank_seen r.0) z)

      low_old : (j : ℕ) (k : KeepingLink) → HasFirst first j k → (b : Bool) → nat_eq j i ≡ b → HasFirst new j k
      low_old j k r true t =
          let same : j ≡ i = eqb-true j i t in
          (x, ap (λ (n : ℕ). get_or new n None) same ∙ here, older k (r.0, ap (λ (n : ℕ). get_or first n None) (sym same) ∙ r.1, r.2))
      low_old j k r false t = (r.0, get_or-set_other first i j (Some x) None (eqb-false j i t) ∙ r.1, r.2)

      low : (j : ℕ) (k : KeepingLink) → Member (told j k) done ⊎ Member (told j k) (told i x ∷ []) → j < length first → HasFirst new j k
      low j k (inl m) b = low_old j k (h.low j k m b) (nat_eq j i) refl
      low j k (inr (inl e)) b =
          let same : j ≡ i = ap (λ (t : Told). t.to) e in
          let link : k ≡ x = ap (λ (t : Told). t.link) e in
          (x, ap (λ (n : ℕ). get_or new n None) same ∙ here, ap (λ (y : KeepingLink). comes_before (rank_seen y) (rank_seen x)) link ∙ before_self (rank_seen x))
      low j k (inr (inr e)) b = absurd e

  pub link_left : (i < length first → yields (get_or first i None) x ≡ false) → IsFirst done first → IsFirst (done ++ told i x ∷ []) first
  link_left y h = record {
    there = λ j k e. member_left done (told i x ∷ []) (told j k) (h.there j k e);
    low = λ j k m b. low j k (member_append done (told i x ∷ []) (told j k) m) b;
  }
    where
      by : (o : Option KeepingLink) → get_or first i None ≡ o → yields o x ≡ false → HasFirst first i x
      by None e t = absurd (false≢true (sym t))
      by (Some m) e t = (m, e, t)

      low : (j : ℕ) (k : KeepingLink) → Member (told j k) done ⊎ Member (told j k) (told i x ∷ []) → j < length first → HasFirst first j k
      low j k (inl m) b = h.low j k m b
      low j k (inr (inl e)) b =
          let same : j ≡ i = ap (λ (t : Told). t.to) e in
          let link : k ≡ x = ap (λ (t : Told). t.link) e in
          let r = by (get_or first i None) refl (y (omega (arith, b, same))) in
          (r.0, ap (λ (n : ℕ). get_or first n None) same ∙ r.1, ap (λ (z : KeepingLink). comes_before (rank_seen z) (rank_seen r.0)) link ∙ r.2)
      low j k (inr (inr e)) b = absurd e

-- ---- the loops
pub map_more : {X : Type 0} (f : X → Told) (done : List Told) (xs : List X) (i : ℕ) (d : X) → i < length xs → (done ++ map f (take i xs)) ++ f (get_or xs i d) ∷ [] ≡ done ++ map f (take (i + 1) xs)
map_more {X} f done xs i d l =
    append_assoc done (map f (take i xs)) (f (get_or xs i d) ∷ [])
    ∙ ap (λ (r : List Told). done ++ r) (sym (ap (map f) (take_more xs i d l) ∙ map-append f (take i xs) (get_or xs i d ∷ [])))

pub nothing_more : (done links : List Told) (first : List (Option KeepingLink)) → links ≡ [] → IsFirst done first → IsFirst (done ++ links) first
nothing_more done links first e h = subst (λ (ls : List Told). IsFirst ls first) (sym (ap (λ (ls : List Told). done ++ ls) e ∙ append-nil done)) h

module _ (hs : List Held) (xs : List Selected) (i : ℕ) where
  pub links_none : (d : Option ℕ) → d ≡ None → links_at hs xs i d ≡ []
  unfolding links_at
  links_none d e = ap (λ (o : Option ℕ). links_by i o (slice_get hs i) (slice_get xs i)) e

  pub links_no_entry : (d : Option ℕ) → slice_get hs i ≡ None → links_at hs xs i d ≡ []
  unfolding links_at
  links_no_entry None e = refl
  links_no_entry (Some k) e = ap (λ (o : Option Held). links_by i (Some k) o (slice_get xs i)) e

  pub links_no_links : (d : Option ℕ) → slice_get xs i ≡ None → links_at hs xs i d ≡ []
  unfolding links_at
  links_no_links None e = refl
  links_no_links (Some k) e = ap (λ (o : Option Selected). links_by i (Some k) (slice_get hs i) o) e ∙ go (slice_get hs i)
    where
      go : (o : Option Held) → links_by i (Some k) o None ≡ []
      go None = refl
      go (Some h) = refl

  pub links_are : (d : Option ℕ) (k : ℕ) (h : Held) (x : Selected) → d ≡ Some k → slice_get hs i ≡ Some h → slice_get xs i ≡ Some x → links_at hs xs i d ≡ map (told_by i k h.at) x.fitted.items
  unfolding links_at
  links_are d k h x e f g =
      ap (λ (o : Option ℕ). links_by i o (slice_get hs i) (slice_get xs i)) e
      ∙ ap (λ (o : Option Held). links_by i (Some k) o (slice_get xs i)) f
      ∙ ap (links_by i (Some k) (Some h)) g

module _ (hs : List Held) (xs : List Selected) (ds : List (Option ℕ)) where
  pub below_next : (i : ℕ) → links_below hs xs ds i ++ links_at hs xs i (get_or ds i None) ≡ links_below hs xs ds (i + 1)
  unfolding links_below
  below_next i = let up : suc i ≡ i + 1 = omega arith in ap (links_below hs xs ds) up

  pub first_begins : (n : ℕ) (first : List (Option KeepingLink)) → first ≡ replicate n None → IsFirst (links_below hs xs ds 0) first
  unfolding links_below
  first_begins n first e = record {
    there = λ j k f. absurd (none_link k (sym (ap (λ (l : List (Option KeepingLink)). get_or l j None) e ∙ none_there n j) ∙ f));
    low = λ j k m. absurd m;
  }

-- ---- the order of ranks is total
levels : (x y : Rank) → comes_before x y ≡ false → comes_before y x ≡ false → x.level ≡ y.level
unfolding comes_before
levels x y h k = grind (arith, nat_tests)

parts : (x y : Rank) → comes_before x y ≡ false → comes_before y x ≡ false → x.holder.part ≡ y.holder.part
unfolding comes_before
parts x y h k = grind (arith, nat_tests)

blocks : (x y : Rank) → comes_before x y ≡ false → comes_before y x ≡ false → x.holder.block ≡ y.holder.block
unfolding comes_before
blocks x y h k = grind (arith, nat_tests)

places : (x y : Rank) → comes_before x y ≡ false → comes_before y x ≡ false → x.place ≡ y.place
unfolding comes_before
places x y h k = grind (arith, nat_tests)

pub before_same : (x y : Rank) → comes_before x y ≡ false → comes_before y x ≡ false → x ≡ y
before_same x y h k =
    ap (λ (n : ℕ). made n x.holder.part x.holder.block x.place) (levels x y h k)
    ∙ ap (λ (n : ℕ). made y.level n x.holder.block x.place) (parts x y h k)
    ∙ ap (λ (n : ℕ). made y.level y.holder.part n x.place) (blocks x y h k)
    ∙ ap (λ (n : ℕ). made y.level y.holder.part y.holder.block n) (places x y h k)
  where
    made : ℕ → ℕ → ℕ → ℕ → Rank
    made l p b n = record { level = l; holder = addr p b; place = n }

-- ---- the links of kept entries, one by one
pub record IsToldBy (hs : List Held) (xs : List Selected) (i : ℕ) (d : Option ℕ) (g : Told) : Type 0 where
  pub depth : ℕ
  pub entry : Held
  pub links : Selected
  pub link : Fitted
  pub depth_is : d ≡ Some depth
  pub entry_is : slice_get hs i ≡ Some entry
  pub links_is : slice_get xs i ≡ Some links
  pub among : Member link links.fitted.items
  pub is : g ≡ told_by i depth entry.at link

pub at_gives : (hs : List Held) (xs : List Selected) (i : ℕ) (d : Option ℕ) (g : Told) → Member g (links_at hs xs i d) → IsToldBy hs xs i d g
unfolding links_at
at_gives hs xs i d g m = go d (slice_get hs i) (slice_get xs i) refl refl refl m
  where
    go : (o : Option ℕ) (p : Option Held) (q : Option Selected) → d ≡ o → slice_get hs i ≡ p → slice_get xs i ≡ q → Member g (links_by i o p q) → IsToldBy hs xs i d g
    go None p q e f h n = absurd n
    go (Some k) None q e f h n = absurd n
    go (Some k) (Some x) None e f h n = absurd n
    go (Some k) (Some x) (Some y) e f h n =
        let r = member_of_map (told_by i k x.at) y.fitted.items g n in
        record { depth = k; entry = x; links = y; link = r.0; depth_is = e; entry_is = f; links_is = h; among = r.1; is = r.2 }

pub at_has : (hs : List Held) (xs : List Selected) (i : ℕ) (d : Option ℕ) (k : ℕ) (h : Held) (x : Selected) (f : Fitted) → d ≡ Some k → slice_get hs i ≡ Some h → slice_get xs i ≡ Some x
    → Member f x.fitted.items → Member (told_by i k h.at f) (links_at hs xs i d)
at_has hs xs i d k h x f e p q m =
    subst (λ (ls : List Told). Member (told_by i k h.at f) ls) (sym (links_are hs xs i d k h x e p q)) (member_map (told_by i k h.at) x.fitted.items f m)

pub below_gives : (hs : List Held) (xs : List Selected) (ds : List (Option ℕ)) (n : ℕ) (g : Told) → Member g (links_below hs xs ds n) → (i : ℕ) × (i < n) × Member g (links_at hs xs i (get_or ds i None))
unfolding links_below
below_gives hs xs ds zero g m = absurd m
below_gives hs xs ds (suc n) g m = go (λ k. below_gives hs xs ds n g k) (member_append (links_below hs xs ds n) (links_at hs xs n (get_or ds n None)) g m)
  where
    go : (Member g (links_below hs xs ds n) → (i : ℕ) × (i < n) × Member g (links_at hs xs i (get_or ds i None)))
        → Member g (links_below hs xs ds n) ⊎ Member g (links_at hs xs n (get_or ds n None)) → (i : ℕ) × (i < suc n) × Member g (links_at hs xs i (get_or ds i None))
    go rest (inl k) = let r = rest k in let l = r.1 in (r.0, omega (arith, l), r.2)
    go rest (inr k) = (n, omega arith, k)

pub below_has : (hs : List Held) (xs : List Selected) (ds : List (Option ℕ)) (n i : ℕ) (g : Told) → i < n → Member g (links_at hs xs i (get_or ds i None)) → Member g (links_below hs xs ds n)
unfolding links_below
below_has hs xs ds zero i g l m = absurd (omega (arith, l))
below_has hs xs ds (suc n) i g l m = go (λ k. below_has hs xs ds n i g k m) (cases_lt i n)
  where
    go : (i < n → Member g (links_below hs xs ds n)) → (i < n) ⊎ (n ≤ i) → Member g (links_below hs xs ds n ++ links_at hs xs n (get_or ds n None))
    go rest (inl k) = member_left (links_below hs xs ds n) (links_at hs xs n (get_or ds n None)) g (rest k)
    go rest (inr k) =
        let same : i ≡ n = omega (arith, l, k) in
        member_right (links_below hs xs ds n) (links_at hs xs n (get_or ds n None)) g (subst (λ (j : ℕ). Member g (links_at hs xs j (get_or ds j None))) same m)
