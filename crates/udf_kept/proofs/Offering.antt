-- The first of the links to each address, one link after another.
use Rattle.std.proofs.Common.{◌≡◌, ◌⊎◌, ℕ, ◌+◌, ◌<◌, List, [], ◌∷◌, ◌++◌, map, length, take, get_or, Bool, true, false, cond, Option, Some, None, refl, sym, ap, ◌∙◌, subst, inl, inr, arith}
use Rattle.std.specs.Prelude.{is_none, is_some}
use Rattle.std.specs.Ordering.{is_eq}
use Rattle.std.specs.List.{filter, flat_map}
use Rattle.std.proofs.lemmas.Bool.Decides.{nat_tests}
use Rattle.std.proofs.lemmas.Grind.{flat_map-append}
use Rattle.std.proofs.lemmas.List.{append-nil, append_assoc, map-append, take_more}
use Rattle.std.proofs.lemmas.List.Elements.{filter-append}
use Rattle.std.proofs.lemmas.Option.{same_Some}
use Rattle.udf_field.specs.declared.address.Addr.{Addr}
use Rattle.udf_tree_model.specs.Among.{Member}
use Rattle.udf_tree_model.specs.Chosen as model
use Rattle.udf_tree_model.specs.Chosen.{comes_before}
use Rattle.udf_tree_model.proofs.Members.{member_append, member_left, member_right}
use Rattle.udf_kept.specs.declared.choices.Rank.{Rank}
use Rattle.udf_held.specs.declared.held.Held.{Held}
use Rattle.udf_found.specs.declared.link.Link.{Link}
use Rattle.udf_found.specs.Linked.{is_first}
use Rattle.udf_kept.specs.Offers.{AreFirst, Offer, first_by, offer_of, offers_by, offers_in, offers_over, rank_seen}
use Rattle.udf_found.specs.Order.{addr_cmp}
use Rattle.udf_kept.proofs.Indexing.{order_same, order_apart}

-- ---- the order of ranks
pub before_self : (x : model.Rank) → comes_before x x ≡ false
unfolding comes_before
before_self x = grind (arith, nat_tests)

pub before_along : (x y z : model.Rank) → comes_before x y ≡ false → comes_before y z ≡ false → comes_before x z ≡ false
unfolding comes_before
before_along x y z h k = grind (arith, nat_tests)

pub before_one : (x y : model.Rank) → comes_before x y ≡ true → comes_before y x ≡ false
unfolding comes_before
before_one x y h = grind (arith, nat_tests)

-- ---- the first of a rank and those before
new_low : (b : Option Rank) (n : Rank) → comes_before (rank_seen n) (rank_seen (first_by b n)) ≡ false
new_low None n = before_self (rank_seen n)
new_low (Some y) n = go (comes_before (rank_seen n) (rank_seen y)) refl
  where
    go : (t : Bool) → comes_before (rank_seen n) (rank_seen y) ≡ t → comes_before (rank_seen n) (rank_seen (cond t n y)) ≡ false
    go true e = before_self (rank_seen n)
    go false e = e

old_low : (y n : Rank) → comes_before (rank_seen y) (rank_seen (first_by (Some y) n)) ≡ false
old_low y n = go (comes_before (rank_seen n) (rank_seen y)) refl
  where
    go : (t : Bool) → comes_before (rank_seen n) (rank_seen y) ≡ t → comes_before (rank_seen y) (rank_seen (cond t n y)) ≡ false
    go true e = before_one (rank_seen n) (rank_seen y) e
    go false e = before_self (rank_seen y)

one_of : (b : Option Rank) (n : Rank) → (first_by b n ≡ n) ⊎ (b ≡ Some (first_by b n))
one_of None n = inl refl
one_of (Some y) n = go (comes_before (rank_seen n) (rank_seen y))
  where
    go : (t : Bool) → (cond t n y ≡ n) ⊎ (Some y ≡ Some (cond t n y))
    go true = inl refl
    go false = inr refl

abbrev offer_to : Addr → Rank → Offer
offer_to a r = record { target = a; rank = rank_seen r }

-- ---- one offer more
module _ (os : List Offer) (f g : Addr → Option Rank) (a : Addr) (n x : Rank) (was : AreFirst os f) (is : x ≡ first_by (f a) n)
    (now : (b : Addr) → g b ≡ cond (is_eq (addr_cmp a b)) (Some x) (f b)) where
  there : (b : Addr) (r : Rank) → g b ≡ Some r → Member (offer_to b r) (os ++ offer_to a n ∷ [])
  there b r e = go (is_eq (addr_cmp a b)) refl (sym (now b) ∙ e)
    where
      pick : (first_by (f a) n ≡ n) ⊎ (f a ≡ Some (first_by (f a) n)) → Member (offer_to a x) (os ++ offer_to a n ∷ [])
      pick (inl i) = member_right os (offer_to a n ∷ []) (offer_to a x) (inl (ap (offer_to a) (is ∙ i)))
      pick (inr i) = member_left os (offer_to a n ∷ []) (offer_to a x) (was.there a x (i ∙ ap Some (sym is)))

      go : (t : Bool) → is_eq (addr_cmp a b) ≡ t → cond t (Some x) (f b) ≡ Some r → Member (offer_to b r) (os ++ offer_to a n ∷ [])
      go true s k =
          subst (λ (y : Rank). Member (offer_to b y) (os ++ offer_to a n ∷ [])) (same_Some x r k)
          (subst (λ (c : Addr). Member (offer_to c x) (os ++ offer_to a n ∷ [])) (order_same a b s) (pick (one_of (f a) n)))
      go false s k = member_left os (offer_to a n ∷ []) (offer_to b r) (was.there b r k)

  low_here : (o : Offer) → Member o os ⊎ Member o (offer_to a n ∷ []) → o.target ≡ a → comes_before o.rank (rank_seen x) ≡ false
  low_here o (inl m) t = rw is (by_old (f a) refl)
    where
      by_old : (b : Option Rank) → f a ≡ b → comes_before o.rank (rank_seen (first_by b n)) ≡ false
      by_old None e = absurd (was.all a e o m t)
      by_old (Some y) e = before_along o.rank (rank_seen y) (rank_seen (first_by (Some y) n)) (was.low a y e o m t) (old_low y n)
  low_here o (inr (inl i)) t = rw is (ap (λ (p : Offer). comes_before p.rank (rank_seen (first_by (f a) n))) i ∙ new_low (f a) n)
  low_here o (inr (inr m)) t = absurd m

  low : (b : Addr) (r : Rank) → g b ≡ Some r → (o : Offer) → Member o (os ++ offer_to a n ∷ []) → o.target ≡ b → comes_before o.rank (rank_seen r) ≡ false
  low b r e o m t = go (is_eq (addr_cmp a b)) refl (sym (now b) ∙ e) (member_append os (offer_to a n ∷ []) o m)
    where
      go : (q : Bool) → is_eq (addr_cmp a b) ≡ q → cond q (Some x) (f b) ≡ Some r → Member o os ⊎ Member o (offer_to a n ∷ []) → comes_before o.rank (rank_seen r) ≡ false
      go true s k i = subst (λ (y : Rank). comes_before o.rank (rank_seen y) ≡ false) (same_Some x r k) (low_here o i (t ∙ sym (order_same a b s)))
      go false s k (inl i) = was.low b r k o i t
      go false s k (inr (inl i)) = absurd (order_apart a b s (ap (λ (p : Offer). p.target) (sym i) ∙ t))
      go false s k (inr (inr i)) = absurd i

  all : (b : Addr) → g b ≡ None → (o : Offer) → Member o (os ++ offer_to a n ∷ []) → o.target ≡ b → ⊥
  all b e o m t = go (is_eq (addr_cmp a b)) refl (sym (now b) ∙ e) (member_append os (offer_to a n ∷ []) o m)
    where
      go : (q : Bool) → is_eq (addr_cmp a b) ≡ q → cond q (Some x) (f b) ≡ None → Member o os ⊎ Member o (offer_to a n ∷ []) → ⊥
      go true s k i = cc
      go false s k (inl i) = was.all b k o i t
      go false s k (inr (inl i)) = order_apart a b s (ap (λ (p : Offer). p.target) (sym i) ∙ t)
      go false s k (inr (inr i)) = i

  pub offer_added : AreFirst (os ++ offer_to a n ∷ []) g
  offer_added = record { there = there; low = low; all = all }

-- ---- one link more of a holder
pub link_added : (os : List Offer) (f g : Addr → Option Rank) (h : Held) (l : Link) (n x : Rank) → is_none l.earlier ≡ true → AreFirst os f → x ≡ first_by (f l.target) n
    → ((b : Addr) → g b ≡ cond (is_eq (addr_cmp l.target b)) (Some x) (f b)) → n ≡ record { level = h.level; holder = h.at; place = l.place } → AreFirst (os ++ offers_in h (l ∷ [])) g
unfolding offers_in
link_added os f g h l n x e was is now i =
    subst (λ (t : Bool). AreFirst (os ++ map (offer_of h) (cond t (l ∷ []) [])) g) (sym e)
    (subst (λ (y : Rank). AreFirst (os ++ record { target = l.target; rank = rank_seen y } ∷ []) g) i (offer_added os f g l.target n x was is now))

pub link_skipped : (os : List Offer) (f : Addr → Option Rank) (h : Held) (l : Link) → is_none l.earlier ≡ false → AreFirst os f → AreFirst (os ++ offers_in h (l ∷ [])) f
unfolding offers_in
link_skipped os f h l e was =
    subst (λ (t : Bool). AreFirst (os ++ map (offer_of h) (cond t (l ∷ []) [])) f) (sym e) (subst (λ (ps : List Offer). AreFirst ps f) (sym (append-nil os)) was)

pub links_begin : (os : List Offer) (f : Addr → Option Rank) (h : Held) → AreFirst os f → AreFirst (os ++ offers_in h []) f
unfolding offers_in
links_begin os f h was = subst (λ (ps : List Offer). AreFirst ps f) (sym (append-nil os)) was

pub links_more : (os : List Offer) (g : Addr → Option Rank) (h : Held) (ls : List Link) (i : ℕ) (l : Link) → i < length ls → l ≡ get_or ls i l
    → AreFirst ((os ++ offers_in h (take i ls)) ++ offers_in h (l ∷ [])) g → AreFirst (os ++ offers_in h (take (i + 1) ls)) g
unfolding offers_in
links_more os g h ls i l low is now = subst (λ (ps : List Offer). AreFirst ps g) same now
  where
    split : map (offer_of h) (filter is_first (take (i + 1) ls)) ≡ map (offer_of h) (filter is_first (take i ls)) ++ map (offer_of h) (filter is_first (l ∷ []))
    split = ap (λ (xs : List Link). map (offer_of h) (filter is_first xs)) (take_more ls i l low ∙ ap (λ (y : Link). take i ls ++ y ∷ []) (sym is))
        ∙ ap (map (offer_of h)) (filter-append is_first (take i ls) (l ∷ []))
        ∙ map-append (offer_of h) (filter is_first (take i ls)) (filter is_first (l ∷ []))

    same : (os ++ map (offer_of h) (filter is_first (take i ls))) ++ map (offer_of h) (filter is_first (l ∷ [])) ≡ os ++ map (offer_of h) (filter is_first (take (i + 1) ls))
    same = append_assoc os (map (offer_of h) (filter is_first (take i ls))) (map (offer_of h) (filter is_first (l ∷ []))) ∙ ap (λ ps. os ++ ps) (sym split)

-- ---- one holder more
pub sound_offers : (os : List Offer) (f : Addr → Option Rank) (h : Held) → h.sound ≡ true → AreFirst (os ++ offers_in h h.links.items) f → AreFirst (os ++ offers_by h) f
unfolding offers_by
sound_offers os f h e was = subst (λ (t : Bool). AreFirst (os ++ cond t (offers_in h h.links.items) []) f) (sym e) was

pub other_offers : (os : List Offer) (f : Addr → Option Rank) (h : Held) → h.sound ≡ false → AreFirst os f → AreFirst (os ++ offers_by h) f
unfolding offers_by
other_offers os f h e was = subst (λ (t : Bool). AreFirst (os ++ cond t (offers_in h h.links.items) []) f) (sym e) (subst (λ (ps : List Offer). AreFirst ps f) (sym (append-nil os)) was)

pub holders_begin : (f : Addr → Option Rank) → ((a : Addr) → f a ≡ None) → AreFirst (offers_over []) f
unfolding offers_over
holders_begin f e = record { there = λ a r k. let n = e a in absurd cc; low = λ a r k o m t. absurd m; all = λ a k o m t. m }

pub holders_more : (g : Addr → Option Rank) (hs : List Held) (i : ℕ) (h : Held) → i < length hs → h ≡ get_or hs i h → AreFirst (offers_over (take i hs) ++ offers_by h) g → AreFirst (offers_over (take (i + 1) hs)) g
unfolding offers_over
holders_more g hs i h low is now = subst (λ (ps : List Offer). AreFirst ps g) (sym split) now
  where
    split : flat_map offers_by (take (i + 1) hs) ≡ flat_map offers_by (take i hs) ++ offers_by h
    split = ap (flat_map offers_by) (take_more hs i h low ∙ ap (λ (y : Held). take i hs ++ y ∷ []) (sym is)) ∙ flat_map-append offers_by (take i hs) (h ∷ []) ∙ ap (λ ps. flat_map offers_by (take i hs) ++ ps) (append-nil (offers_by h))

pub some_earlier : (o : Option ℕ) → is_some o ≡ true → is_none o ≡ false
some_earlier None e = sym e
some_earlier (Some x) e = refl

pub no_earlier : (o : Option ℕ) → is_some o ≡ false → is_none o ≡ true
no_earlier None e = refl
no_earlier (Some x) e = sym e
