-- The mends of kept entries, one after another in the order of their addresses.
use Rattle.std.proofs.Common.{◌≡◌, ◌<◌, ◌≤◌, ◌+◌, ℕ, zero, suc, arith, length, take, get_or, List, [], ◌∷◌, ◌++◌, map, Option, Some, refl, sym, ap, ◌∙◌, subst, append-nil, append_assoc}
use Rattle.std.specs.Prelude.{slice_get}
use Rattle.std.specs.List.{flat_map}
use Rattle.std.proofs.lemmas.List.{take_all}
use Rattle.udf_field.specs.declared.address.Addr.{Addr}
use Rattle.udf_file_model.specs.Listing.{Volume}
use Rattle.udf_tree_model.specs.Frame.{Frame}
use Rattle.udf_tree_model.specs.Ordinary.{kept_entries}
use Rattle.udf_tree.specs.declared.node.NodeId.{NodeId}
use Rattle.udf_tree.specs.Nodes.{node_addresses}
use Rattle.udf_tree.specs.Survey.{IsSurvey, View}
use Rattle.udf_file_mends.specs.Mends.{edits_at, edits_of, file_edits, mend_of}
use Rattle.udf_file_mends.specs.Spread.{Sited}
use Rattle.udf_wanted.specs.Wanted.{LookAlike, differing}
use Rattle.udf_file_plan.specs.Base.{PutsOf}
use Rattle.udf_file_plan.proofs.Puts.{edits_joined, puts_none, puts_both, puts_as}

-- the addresses of numbers
abbrev pub addresses_of : View → List NodeId → List (Option Addr)
addresses_of x ids = map (λ id. slice_get (node_addresses x.nodes) id.0) ids

-- the mends of the entries of these numbers were put
pub record EntriesPut (f : Frame) (v : Volume) (x : View) (base now : List (ℕ × List ℕ)) (ids : List NodeId) : Type 0 where
  pub at : List Addr
  pub at_is : map (λ id. slice_get (node_addresses x.nodes) id.0) ids ≡ map Some at
  pub put : PutsOf v base now (flat_map (mend_of f v) at)

some_none : {A : Type 0} (xs : List A) → map Some xs ≡ [] → xs ≡ []
some_none [] e = refl
some_none (x ∷ xs) e = cc

same_somes : {A : Type 0} (xs ys : List A) → map Some xs ≡ map Some ys → xs ≡ ys
same_somes [] [] e = refl
same_somes [] (y ∷ ys) e = cc
same_somes (x ∷ xs) [] e = cc
same_somes (x ∷ xs) (y ∷ ys) e =
    let head : x ≡ y = cc in
    let tail : map Some xs ≡ map Some ys = cc in
    ap (λ z. z ∷ xs) head ∙ ap (λ z. y ∷ z) (same_somes xs ys tail)

map_joined : {A B : Type 0} (f : A → B) (xs ys : List A) → map f (xs ++ ys) ≡ map f xs ++ map f ys
map_joined f [] ys = refl
map_joined f (x ∷ xs) ys = ap (λ z. f x ∷ z) (map_joined f xs ys)

flat_joined : (f : Addr → List Sited) (xs : List Addr) (x : Addr) → flat_map f (xs ++ (x ∷ [])) ≡ flat_map f xs ++ f x
flat_joined f [] x = append-nil (f x)
flat_joined f (y ∷ xs) x = ap (λ z. f y ++ z) (flat_joined f xs x) ∙ sym (append_assoc (f y) (flat_map f xs) (f x))

-- the edits of all are those of each
edits_flat : (f : Frame) (v : Volume) (xs : List Addr) → edits_of v (flat_map (mend_of f v) xs) ≡ flat_map (edits_at f v) xs
unfolding edits_at edits_of
edits_flat f v [] = refl
edits_flat f v (a ∷ xs) = edits_joined v (mend_of f v a) (flat_map (mend_of f v) xs) ∙ ap (λ z. edits_of v (mend_of f v a) ++ z) (edits_flat f v xs)

module _ (f : Frame) (v : Volume) (x : View) (base : List (ℕ × List ℕ)) where
  pub entries_begin : EntriesPut f v x base base []
  entries_begin = record { at = []; at_is = refl; put = puts_none v base }

  pub entries_go_on : (now after : List (ℕ × List ℕ)) (ids : List NodeId) (id : NodeId) (a : Addr) → EntriesPut f v x base now ids
      → slice_get (node_addresses x.nodes) id.0 ≡ Some a → PutsOf v now after (mend_of f v a) → EntriesPut f v x base after (ids ++ (id ∷ []))
  entries_go_on now after ids id a so there put = record {
    at = so.at ++ (a ∷ []);
    at_is = map_joined (λ i. slice_get (node_addresses x.nodes) i.0) ids (id ∷ []) ∙ ap (λ z. z ++ (slice_get (node_addresses x.nodes) id.0 ∷ [])) so.at_is
        ∙ ap (λ o. map Some so.at ++ (o ∷ [])) there ∙ sym (map_joined Some so.at (a ∷ []));
    put = puts_as v base after (flat_map (mend_of f v) so.at ++ mend_of f v a) (flat_map (mend_of f v) (so.at ++ (a ∷ [])))
        (puts_both v base now after (flat_map (mend_of f v) so.at) (mend_of f v a) so.put put) (sym (flat_joined (mend_of f v) so.at a));
  }

  pub entries_end : (now : List (ℕ × List ℕ)) → IsSurvey f v x → EntriesPut f v x base now x.order → LookAlike now (base ++ differing v.disk (file_edits f v))
  unfolding file_edits
  entries_end now told so =
      subst (λ (edits : List (ℕ × List ℕ)). LookAlike now (base ++ differing v.disk edits))
      (edits_flat f v so.at ∙ ap (flat_map (edits_at f v)) (same_somes so.at (kept_entries f v) (sym so.at_is ∙ told.order_is))) so.put

-- one more of a list
pub take_more : {A : Type 0} (xs : List A) (i : ℕ) (d : A) → i < length xs → take i xs ++ (get_or xs i d ∷ []) ≡ take (i + 1) xs
take_more [] i d h = absurd (omega (arith, h))
take_more (x ∷ xs) zero d h = refl
take_more (x ∷ xs) (suc i) d h = ap (λ z. x ∷ z) (take_more xs i d (omega (arith, h))) ∙ (let z : suc (i + 1) ≡ suc i + 1 = omega arith in ap (λ k. take k (x ∷ xs)) z)

pub there_at : {A : Type 0} (g : A → Option Addr) (xs : List A) (ys : List Addr) (i : ℕ) (d : A) → map g xs ≡ map Some ys → i < length xs → (a : Addr) × (g (get_or xs i d) ≡ Some a)
there_at g [] ys i d e h = absurd (omega (arith, h))
there_at g (x ∷ xs) [] i d e h = cc
there_at g (x ∷ xs) (y ∷ ys) zero d e h = (y, cc)
there_at g (x ∷ xs) (y ∷ ys) (suc i) d e h = there_at g xs ys i d (let z : map g xs ≡ map Some ys = cc in z) (omega (arith, h))

-- the entry at the next place of the order
module _ (f : Frame) (v : Volume) (x : View) (base : List (ℕ × List ℕ)) (told : IsSurvey f v x) (order : List NodeId) (is : order ≡ x.order) where
  pub order_goes_on : (now after : List (ℕ × List ℕ)) (i : ℕ) (d : NodeId) → i < length order → EntriesPut f v x base now (take i order)
      → ((a : Addr) → slice_get (node_addresses x.nodes) (get_or order i d).0 ≡ Some a → PutsOf v now after (mend_of f v a)) → EntriesPut f v x base after (take (i + 1) order)
  order_goes_on now after i d h so put =
      let a = there_at (λ id. slice_get (node_addresses x.nodes) id.0) order (kept_entries f v) i d (ap (map (λ id. slice_get (node_addresses x.nodes) id.0)) is ∙ told.order_is) h in
      subst (λ (ids : List NodeId). EntriesPut f v x base after ids) (take_more order i d h)
      (entries_go_on f v x base now after (take i order) (get_or order i d) a.0 so a.1 (put a.0 a.1))

  pub order_ends : (now : List (ℕ × List ℕ)) (i : ℕ) → length order ≤ i → EntriesPut f v x base now (take i order) → LookAlike now (base ++ differing v.disk (file_edits f v))
  order_ends now i h so = entries_end f v x base now told (subst (λ (ids : List NodeId). EntriesPut f v x base now ids) (take_all i order h ∙ is) so)
