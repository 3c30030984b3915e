-- Found entries and their fitted links, by the indexes of the entries.
use Rattle.std.proofs.Common.{◌≡◌, ℕ, zero, suc, List, [], ◌∷◌, map, get_or, Bool, true, false, cond, refl, sym, ap, ◌∙◌, inl, inr, subst, Option, Some, None}
use Rattle.std.specs.Prelude.{nat_le, option_map, slice_get}
use Rattle.std.specs.List.{list_any}
use Rattle.std.proofs.lemmas.Bool.{false≢true}
use Rattle.std.proofs.lemmas.Option.{same_Some, get_or_from_slice_get, slice_get-map}
use Rattle.udf_field.specs.declared.address.Addr.{Addr}
use Rattle.udf_file_model.specs.Address.{same_addr}
use Rattle.udf_tree_model.specs.Among.{Member}
use Rattle.udf_tree_model.specs.Link.{Link, target_of}
use Rattle.udf_tree_model.specs.Node.{Setting, Tree}
use Rattle.udf_tree_model.specs.Found.{found}
use Rattle.udf_tree_model.specs.Won.{sound}
use Rattle.udf_tree_model.specs.Chosen.{fitted}
use Rattle.udf_tree_model.proofs.Members.{any_from, any_gives, member_map, member_of_map}
use Rattle.udf_tree_model.proofs.Places.{address_same, in_flat_map, same_address}
use Rattle.udf_kept.specs.declared.fitted.Fitted.{Fitted}
use Rattle.udf_kept.specs.declared.fitted.Selected.{Selected}
use Rattle.udf_held.specs.declared.held.Held.{Held}
use Rattle.udf_found.specs.Spot.{ComeOnce, Spot, addresses, spot}
use Rattle.udf_held.specs.Held.{AreHeld, held_spots}
use Rattle.udf_kept.specs.Fitted.{AreSelected, AreSelectedOf, IsSelected, Step, at_by, step_of, step_seen}
use Rattle.udf_kept.specs.Depths.{edges, edges_by, target_from}
use Rattle.udf_kept.proofs.Depicting.{StandsAt}
use Rattle.udf_kept.proofs.Layering.{member_flat}

no_element : {X : Type 0} (x : X) → None ≡ Some x → ⊥
no_element x e = cc

pub index_of : {X : Type 0} (xs : List X) (x : X) → Member x xs → (i : ℕ) × (slice_get xs i ≡ Some x)
index_of [] x m = absurd m
index_of (y ∷ ys) x (inl e) = (0, ap Some (sym e))
index_of (y ∷ ys) x (inr m) = let r = index_of ys x m in (suc r.0, r.1)

pub member_at : {X : Type 0} (xs : List X) (i : ℕ) (x : X) → slice_get xs i ≡ Some x → Member x xs
member_at [] i x e = no_element x e
member_at (y ∷ ys) zero x e = inl (sym (same_Some y x e))
member_at (y ∷ ys) (suc i) x e = inr (member_at ys i x e)

-- no address stands at two indexes
twice : (x k : Held) (hs : List Held) (j : ℕ) → list_any (same_addr x.at) (addresses (held_spots hs)) ≡ false → slice_get hs j ≡ Some k → x.at ≡ k.at → ⊥
twice x k hs j once e a =
    let m = member_map (λ (h : Held). spot h.at h.level) hs k (member_at hs j k e) in
    false≢true (sym once ∙ any_from (same_addr x.at) (addresses (held_spots hs)) k.at (member_map (λ (z : Spot). z.at) (held_spots hs) (spot k.at k.level) m) (address_same x.at k.at a))

once_index : (hs : List Held) → ComeOnce (held_spots hs) → (i j : ℕ) (h k : Held) → slice_get hs i ≡ Some h → slice_get hs j ≡ Some k → h.at ≡ k.at → i ≡ j
once_index [] o i j h k e f a = absurd (no_element h e)
once_index (x ∷ hs) o zero zero h k e f a = refl
once_index (x ∷ hs) o zero (suc j) h k e f a = absurd (twice x k hs j o.0 f (ap (λ (y : Held). y.at) (same_Some x h e) ∙ a))
once_index (x ∷ hs) o (suc i) zero h k e f a = absurd (twice x h hs i o.0 e (ap (λ (y : Held). y.at) (same_Some x k f) ∙ sym a))
once_index (x ∷ hs) o (suc i) (suc j) h k e f a = ap suc (once_index hs o.1 i j h k e f a)

-- a test of each entry
pub test_at : (f : Held → Bool) (hs : List Held) (i : ℕ) (h : Held) → slice_get hs i ≡ Some h → get_or (map f hs) i false ≡ f h
test_at f hs i h e = get_or_from_slice_get (map f hs) i (f h) false (slice_get-map f hs i ∙ ap (option_map f) e)

-- ---- edges
pub edge_link : (least : ℕ) (xs : List Selected) (i j : ℕ) (x : Selected) → slice_get xs i ≡ Some x → Member j (edges least xs i)
    → (f : Fitted) × Member f x.fitted.items × (nat_le least f.place ≡ true) × (j ≡ f.to)
unfolding edges
edge_link least xs i j x e m = go (member_flat (target_from least) x.fitted.items j (subst (λ (o : Option Selected). Member j (edges_by least o)) e m))
  where
    go : (f : Fitted) × Member f x.fitted.items × Member j (target_from least f) → (f : Fitted) × Member f x.fitted.items × (nat_le least f.place ≡ true) × (j ≡ f.to)
    go (f, n, k) = by (nat_le least f.place) refl k
      where
        by : (b : Bool) → nat_le least f.place ≡ b → Member j (cond b (f.to ∷ []) []) → (f : Fitted) × Member f x.fitted.items × (nat_le least f.place ≡ true) × (j ≡ f.to)
        by true t (inl q) = (f, n, t, q)
        by true t (inr q) = absurd q
        by false t q = absurd q

pub link_edge : (least : ℕ) (xs : List Selected) (i : ℕ) (x : Selected) (f : Fitted) → slice_get xs i ≡ Some x → Member f x.fitted.items → nat_le least f.place ≡ true → Member f.to (edges least xs i)
unfolding edges
link_edge least xs i x f e m t =
    subst (λ (o : Option Selected). Member f.to (edges_by least o)) (sym e)
    (in_flat_map (target_from least) x.fitted.items f f.to m (subst (λ (b : Bool). Member f.to (cond b (f.to ∷ []) [])) (sym t) (inl refl)))

-- ---- held entries and their links
stands_by : (hs : List Held) (i : ℕ) (a : Addr) (o : Option Held) → slice_get hs i ≡ o → at_by o ≡ Some a → StandsAt hs i a
stands_by hs i a None e f = absurd (no_element a f)
stands_by hs i a (Some h) e f = record { entry = h; there = e; at = same_Some h.at a f }

module _ (s : Setting) (t : Tree) (hs : List Held) (held : AreHeld s t hs) where
  pub once_at : (i j : ℕ) (a : Addr) → StandsAt hs i a → StandsAt hs j a → i ≡ j
  once_at i j a x y = once_index hs held.listed.once i j x.entry y.entry x.there y.there (x.at ∙ sym y.at)

  pub found_stands : (a : Addr) → found s t a ≡ true → (i : ℕ) × StandsAt hs i a
  found_stands a f =
      let r = any_gives (same_addr a) (addresses (held_spots hs)) (sym (held.listed.all a) ∙ f) in
      let x = member_of_map (λ (z : Spot). z.at) (held_spots hs) r.0 r.1 in
      let h = member_of_map (λ (z : Held). spot z.at z.level) hs x.0 x.1 in
      let i = index_of hs h.0 h.1 in
      (i.0, record { entry = h.0; there = i.1; at = sym (same_address a r.0 r.2 ∙ x.2 ∙ ap (λ (z : Spot). z.at) h.2) })

  module _ (xs : List Selected) (selected : AreSelected s t hs xs) where
    each_selected : (ys : List Held) (zs : List Selected) → AreSelectedOf s t hs ys zs → (i : ℕ) (h : Held) → slice_get ys i ≡ Some h → (x : Selected) × (slice_get zs i ≡ Some x) × IsSelected s t hs h x
    each_selected [] [] a i h e = absurd (no_element h e)
    each_selected [] (z ∷ zs) a i h e = absurd a
    each_selected (y ∷ ys) [] a i h e = absurd a
    each_selected (y ∷ ys) (z ∷ zs) a zero h e = (z, refl, subst (λ (k : Held). IsSelected s t hs k z) (same_Some y h e) a.0)
    each_selected (y ∷ ys) (z ∷ zs) a (suc i) h e = each_selected ys zs a.1 i h e

    pub selected_at : (i : ℕ) (h : Held) → slice_get hs i ≡ Some h → (x : Selected) × (slice_get xs i ≡ Some x) × IsSelected s t hs h x
    selected_at i h e = each_selected hs xs selected.each i h e

    -- a link of the code is a fitted link
    pub fitted_in : (i : ℕ) (h : Held) (x : Selected) (f : Fitted) → slice_get hs i ≡ Some h → slice_get xs i ≡ Some x → Member f x.fitted.items
        → (l : Link) × Member l (fitted s t h.at) × (f.place ≡ l.place) × StandsAt hs f.to (target_of l.says)
    fitted_in i h x f e k m = by h.sound refl
      where
        own : IsSelected s t hs h x
        own = let r = selected_at i h e in subst (λ (y : Selected). IsSelected s t hs h y) (same_Some r.0 x (sym r.1 ∙ k)) r.2

        by : (b : Bool) → h.sound ≡ b → (l : Link) × Member l (fitted s t h.at) × (f.place ≡ l.place) × StandsAt hs f.to (target_of l.says)
        by false b = absurd (subst (λ (fs : List Fitted). Member f fs) (own.of_other b) m)
        by true b =
            let r = member_of_map step_of (fitted s t h.at) (step_seen hs f) (subst (λ (zs : List Step). Member (step_seen hs f) zs) (own.of_sound b) (member_map (step_seen hs) x.fitted.items f m)) in
            (r.0, r.1, ap (λ (z : Step). z.place) r.2, stands_by hs f.to (target_of r.0.says) (slice_get hs f.to) refl (ap (λ (z : Step). z.to) r.2))

    -- a fitted link of a sound entry is one of the code
    pub fitted_at : (i : ℕ) (h : Held) (l : Link) → slice_get hs i ≡ Some h → sound s t h.at ≡ true → Member l (fitted s t h.at)
        → (x : Selected) × (slice_get xs i ≡ Some x) × (f : Fitted) × Member f x.fitted.items × (f.place ≡ l.place) × StandsAt hs f.to (target_of l.says)
    fitted_at i h l e b m =
        let r = selected_at i h e in
        let sound_held = (held.each h (member_at hs i h e)).sound_is ∙ b in
        let y = member_of_map (step_seen hs) r.0.fitted.items (step_of l) (subst (λ (zs : List Step). Member (step_of l) zs) (sym (r.2.of_sound sound_held)) (member_map step_of (fitted s t h.at) l m)) in
        (r.0, r.1, y.0, y.1, ap (λ (z : Step). z.place) (sym y.2), stands_by hs y.0.to (target_of l.says) (slice_get hs y.0.to) refl (ap (λ (z : Step). z.to) (sym y.2)))

pub stands_same : (hs : List Held) (i : ℕ) (a b : Addr) → StandsAt hs i a → StandsAt hs i b → a ≡ b
stands_same hs i a b x y = sym x.at ∙ ap (λ (h : Held). h.at) (same_Some x.entry y.entry (sym x.there ∙ y.there)) ∙ y.at
