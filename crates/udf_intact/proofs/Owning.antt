-- An entry that no damage touches wins all that it wants.
use Rattle.std.proofs.Common.{◌≡◌, ◌⊎◌, ℕ, suc, ◌≤◌, List, [], ◌∷◌, map, Bool, true, false, cond, not, ◌||◌, refl, sym, ap, ◌∙◌, subst, inl, inr, arith}
use Rattle.std.specs.Prelude.{◌≢◌, AllPairs, Contains}
use Rattle.std.specs.List.{filter}
use Rattle.std.proofs.lemmas.Bool.{and_from, false≢true}
use Rattle.udf_field.specs.declared.address.Addr.{Addr}
use Rattle.udf_tree_model.specs.Among.{Member}
use Rattle.udf_tree_model.specs.Intact.{IsIntact}
use Rattle.udf_tree_model.specs.Node.{Item, Setting, Tree, good_length, node_at, wants}
use Rattle.udf_tree_model.specs.Stated.{taken}
use Rattle.udf_tree_model.specs.Won.{IsWant, kept_length, sound, wins}
use Rattle.udf_tree_model.proofs.Members.{all_from, contains_of, member_filtered, member_left, member_map, member_of, member_right}
use Rattle.udf_tree_model.proofs.Winning.{kept_whole, means_wins}

pub intact_wins : (s : Setting) (t : Tree) (a : Addr) → IsIntact s t a → (i : Item) → IsWant s t a i → wins s t a i ≡ true
intact_wins s t a h i x = means_wins s t a i (
  h.free i x,
  record {
    lowest = λ o j y e. lowest o j y e (h.alone o i j x y e);
    alone = λ o j y e n. absurd (n (h.alone o i j x y e));
  },
)
  where
    lowest : (o : Addr) (j : Item) → IsWant s t o j → j.at ≡ i.at → o ≡ a → i.class ≤ j.class
    lowest o j y e q = h.lowest i j x (subst (λ (z : Addr). IsWant s t z j) q y) e

pub wins_listed : (s : Setting) (t : Tree) (a : Addr) → IsIntact s t a → (i : Item) → Member i (node_at t a).list → i.takes ≡ true → wins s t a i ≡ true
unfolding wants
wins_listed s t a h i m c = intact_wins s t a h i (record {
  found_owner = h.is_found;
  among = contains_of (wants t a) i (member_right (node_at t a).own (node_at t a).list i m);
  takes = c;
})

pub intact_length : (s : Setting) (t : Tree) (a : Addr) → IsIntact s t a → kept_length s t a ≡ good_length t a
intact_length s t a h = kept_whole s t a (λ i k c. wins_listed s t a h i (member_of (node_at t a).list i k) c)

pub intact_sound : (s : Setting) (t : Tree) (a : Addr) → IsIntact s t a → sound s t a ≡ true
unfolding sound wants
intact_sound s t a h = and_from _ _ h.is_found (and_from _ _ (all_from (wins s t a) (node_at t a).own own_wins) (enough (node_at t a).directory refl))
  where
    own_wins : (i : Item) → Member i (node_at t a).own → wins s t a i ≡ true
    own_wins i k = intact_wins s t a h i (record {
      found_owner = h.is_found;
      among = contains_of (wants t a) i (member_left (node_at t a).own (node_at t a).list i k);
      takes = h.own_takes i (contains_of (node_at t a).own i k);
    })

    enough : (b : Bool) → (node_at t a).directory ≡ b → (not b || (node_at t a).enough (kept_length s t a)) ≡ true
    enough true e = subst (λ (n : ℕ). (node_at t a).enough n ≡ true) (sym (intact_length s t a h)) (h.long_enough e)
    enough false e = refl

-- ---- what takes each address once wants it in one way
-- nothing stands twice, by recursion
abbrev Apart : List Addr → Type 0
Apart [] = Unit {0}
Apart (x ∷ xs) = (Member x xs → ⊥) × Apart xs

address_of : (is : List Item) (i : Item) → Member i is → i.takes ≡ true → Member i.at (taken is)
address_of is i m c = member_map (λ (x : Item). x.at) (filter (λ x. x.takes) is) i (member_filtered (λ (x : Item). x.takes) is i m c)

same_item : (is : List Item) → Apart (taken is) → (i j : Item) → Member i is → Member j is → i.takes ≡ true → j.takes ≡ true → j.at ≡ i.at → i ≡ j
same_item [] d i j m n c k e = absurd m
same_item (x ∷ xs) d i j m n c k e = by x.takes refl d m n (λ h p q. same_item xs h i j p q c k e)
  where
    there : (y : Item) → Member y xs → y.takes ≡ true → y.at ≡ x.at → (Member x.at (taken xs) → ⊥) → ⊥
    there y p t q none = none (subst (λ (z : Addr). Member z (taken xs)) q (address_of xs y p t))

    at : (Member x.at (taken xs) → ⊥) × Apart (taken xs) → (i ≡ x) ⊎ Member i xs → (j ≡ x) ⊎ Member j xs
        → (Apart (taken xs) → Member i xs → Member j xs → i ≡ j) → i ≡ j
    at h (inl p) (inl q) on = p ∙ sym q
    at h (inl p) (inr q) on = absurd (there j q k (e ∙ ap (λ (z : Item). z.at) p) h.0)
    at h (inr p) (inl q) on = absurd (there i p c (sym e ∙ ap (λ (z : Item). z.at) q) h.0)
    at h (inr p) (inr q) on = on h.1 p q

    off : x.takes ≡ false → (y : Item) → (y ≡ x) ⊎ Member y xs → y.takes ≡ true → Member y xs
    off z y (inl p) t = absurd (false≢true (sym z ∙ sym (ap (λ (u : Item). u.takes) p) ∙ t))
    off z y (inr p) t = p

    by : (b : Bool) → x.takes ≡ b → Apart (map (λ (z : Item). z.at) (cond b (x ∷ filter (λ z. z.takes) xs) (filter (λ z. z.takes) xs)))
        → (i ≡ x) ⊎ Member i xs → (j ≡ x) ⊎ Member j xs → (Apart (taken xs) → Member i xs → Member j xs → i ≡ j) → i ≡ j
    by true z h p q on = at h p q on
    by false z h p q on = on h (off z i p c) (off z j q k)

apart_of : (xs : List Addr) → AllPairs (λ x y. x ≢ y) xs → Apart xs
apart_of [] h = tt
apart_of (x ∷ xs) h = (
  λ m. let r = contains_of xs x m in h 0 (suc r.0) x (omega arith) (omega (arith, r.1)) (sym r.2),
  apart_of xs (λ i j d l m. h (suc i) (suc j) d (omega (arith, l)) (omega (arith, m))),
)

pub one_class : (is : List Item) → AllPairs (λ x y. x ≢ y) (taken is) → (i j : Item) → Contains is i → Contains is j → i.takes ≡ true → j.takes ≡ true
    → j.at ≡ i.at → i.class ≤ j.class
one_class is h i j m n c k e =
    let same : i.class ≡ j.class = ap (λ (x : Item). x.class) (same_item is (apart_of (taken is) h) i j (member_of is i m) (member_of is j n) c k e) in
    omega (arith, same)
