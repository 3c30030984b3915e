-- First children and next siblings, by the indexes of found entries.
use Rattle.std.proofs.Common.{◌≡◌, ℕ, zero, suc, ◌<◌, ◌≤◌, List, [], ◌∷◌, drop, length, map, take, ◌-◌, leb, Bool, true, false, cond, refl, sym, ap, ◌∙◌, subst, inl, inr, arith}
use Rattle.std.specs.Prelude.{nat_lt, slice_index_or}
use Rattle.std.specs.List.Sorted.{IsNonDecreasingBy, IsPartitionPoint}
use Rattle.std.proofs.lemmas.Bool.Decides.{nat_tests}
use Rattle.std.proofs.lemmas.List.{length-drop, take_all}
use Rattle.udf_tree_model.specs.Among.{Member}
use Rattle.udf_tree_model.specs.Link.{Link}
use Rattle.udf_tree_model.proofs.Members.{member_map, member_of_map}
use Rattle.udf_tree_model.proofs.Siblings.{Ascend, beyond}
use Rattle.udf_kept.specs.declared.fitted.Fitted.{Fitted}
use Rattle.udf_held.specs.declared.held.Held.{Held}
use Rattle.udf_kept.specs.Fitted.{Step, step_of, step_seen}
use Rattle.udf_tree.specs.Kindred.{links_beyond}
use Rattle.udf_tree.proofs.Surveying.{heads}

-- ---- the links beyond a place are those from a point on
passes : (p n : ℕ) → leb n p ≡ true → nat_lt p n ≡ false
passes p n h = grind (arith, nat_tests)

fails : (p n : ℕ) → leb n p ≡ false → nat_lt p n ≡ true
fails p n h = grind (arith, nat_tests)

all_beyond : (p : ℕ) (xs : List Fitted) → ((k : ℕ) (d : Fitted) → k < length xs → leb (slice_index_or xs k d).place p ≡ false) → links_beyond p xs ≡ xs
all_beyond p [] h = refl
all_beyond p (x ∷ xs) h =
    ap (λ (b : Bool). cond b (x ∷ links_beyond p xs) (links_beyond p xs)) (fails p x.place (h 0 x (omega arith)))
    ∙ ap (λ (ys : List Fitted). x ∷ ys) (all_beyond p xs (λ k d l. h (suc k) d (omega (arith, l))))

beyond_point : (p n : ℕ) (xs : List Fitted) → IsPartitionPoint (λ (y : Fitted). leb y.place p ≡ true) (λ y. leb y.place p ≡ false) xs n → n ≤ length xs → drop n xs ≡ links_beyond p xs
beyond_point p zero xs h l = sym (all_beyond p xs (λ k d b. h.1 k d (omega arith) b))
beyond_point p (suc n) [] h l = refl
beyond_point p (suc n) (x ∷ xs) h l =
    beyond_point p n xs (λ k d a b. h.0 (suc k) d (omega arith) (omega (arith, b)), λ k d a b. h.1 (suc k) d (omega (arith, a)) (omega (arith, b))) (omega (arith, l))
    ∙ sym (ap (λ (b : Bool). cond b (x ∷ links_beyond p xs) (links_beyond p xs)) (passes p x.place (h.0 0 x (omega arith) (omega arith))))

pub beyond_slice : (p n : ℕ) (xs : List Fitted) → IsPartitionPoint (λ (y : Fitted). leb y.place p ≡ true) (λ y. leb y.place p ≡ false) xs n → n ≤ length xs → take (length xs - n) (drop n xs) ≡ links_beyond p xs
beyond_slice p n xs h l = let m = length-drop n xs in take_all (length xs - n) (drop n xs) (omega (arith, m)) ∙ beyond_point p n xs h l

-- ---- the same links by indexes
module _ (hs : List Held) where
  place_same : (x : Fitted) (l : Link) → step_seen hs x ≡ step_of l → x.place ≡ l.place
  place_same x l e = ap (λ (z : Step). z.place) e

  pub steps_beyond : (p : ℕ) (xs : List Fitted) (ls : List Link) → map (step_seen hs) xs ≡ map step_of ls → map (step_seen hs) (links_beyond p xs) ≡ map step_of (beyond p ls)
  steps_beyond p [] [] e = refl
  steps_beyond p [] (l ∷ ls) e = cc
  steps_beyond p (x ∷ xs) [] e = cc
  steps_beyond p (x ∷ xs) (l ∷ ls) e = go (nat_lt p l.place) (ap (λ (n : ℕ). nat_lt p n) (place_same x l q.0)) refl (steps_beyond p xs ls q.1)
    where
      q : (step_seen hs x ≡ step_of l) × (map (step_seen hs) xs ≡ map step_of ls)
      q = heads (step_seen hs x) (step_of l) (map (step_seen hs) xs) (map step_of ls) e

      go : (b : Bool) → nat_lt p x.place ≡ b → nat_lt p l.place ≡ b → map (step_seen hs) (links_beyond p xs) ≡ map step_of (beyond p ls)
          → map (step_seen hs) (cond (nat_lt p x.place) (x ∷ links_beyond p xs) (links_beyond p xs)) ≡ map step_of (cond (nat_lt p l.place) (l ∷ beyond p ls) (beyond p ls))
      go true a b next =
          ap (λ (c : Bool). map (step_seen hs) (cond c (x ∷ links_beyond p xs) (links_beyond p xs))) a
          ∙ ap (λ (z : Step). z ∷ map (step_seen hs) (links_beyond p xs)) q.0
          ∙ ap (λ (zs : List Step). step_of l ∷ zs) next
          ∙ sym (ap (λ (c : Bool). map step_of (cond c (l ∷ beyond p ls) (beyond p ls))) b)
      go false a b next =
          ap (λ (c : Bool). map (step_seen hs) (cond c (x ∷ links_beyond p xs) (links_beyond p xs))) a ∙ next ∙ sym (ap (λ (c : Bool). map step_of (cond c (l ∷ beyond p ls) (beyond p ls))) b)

  abbrev Rising : List Fitted → Type 0
  Rising [] = Unit {0}
  Rising (x ∷ xs) = ((y : Fitted) → Member y xs → x.place < y.place) × Rising xs

  rising : (xs : List Fitted) (ls : List Link) → map (step_seen hs) xs ≡ map step_of ls → Ascend ls → Rising xs
  rising [] ls e h = tt
  rising (x ∷ xs) [] e h = cc
  rising (x ∷ xs) (l ∷ ls) e h =
      let q = heads (step_seen hs x) (step_of l) (map (step_seen hs) xs) (map step_of ls) e in (
        λ y m.
            let r = member_of_map step_of ls (step_seen hs y) (subst (λ (zs : List Step). Member (step_seen hs y) zs) q.1 (member_map (step_seen hs) xs y m)) in
            let above = h.0 r.0 r.1 in
            omega (arith, above, place_same x l q.0, place_same y r.0 r.2),
        rising xs ls q.1 h.1,
      )

  read_member : (xs : List Fitted) (j : ℕ) (d : Fitted) → j < length xs → Member (slice_index_or xs j d) xs
  read_member [] j d l = absurd (omega (arith, l))
  read_member (x ∷ xs) zero d l = inl refl
  read_member (x ∷ xs) (suc j) d l = inr (read_member xs j d (omega (arith, l)))

  in_order : (xs : List Fitted) → Rising xs → IsNonDecreasingBy (λ (x : Fitted). x.place) xs
  in_order [] h i j d a b = absurd (omega (arith, b))
  in_order (x ∷ xs) h zero zero d a b = omega arith
  in_order (x ∷ xs) h zero (suc j) d a b = let l = h.0 (slice_index_or xs j d) (read_member xs j d (omega (arith, b))) in omega (arith, l)
  in_order (x ∷ xs) h (suc i) zero d a b = absurd (omega (arith, a))
  in_order (x ∷ xs) h (suc i) (suc j) d a b = in_order xs h.1 i j d (omega (arith, a)) (omega (arith, b))

  pub places_rise : (xs : List Fitted) (ls : List Link) → map (step_seen hs) xs ≡ map step_of ls → Ascend ls → IsNonDecreasingBy (λ (x : Fitted). x.place) xs
  places_rise xs ls e h = in_order xs (rising xs ls e h)
