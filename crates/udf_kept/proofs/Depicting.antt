-- What depths by index say of a graph over addresses.
use Rattle.std.proofs.Common.{◌≡◌, ℕ, zero, suc, ◌<◌, List, [], ◌∷◌, length, get_or, Bool, true, false, refl, sym, ap, ◌∙◌, subst, arith, Option, Some, None}
use Rattle.std.specs.Prelude.{slice_get}
use Rattle.std.proofs.lemmas.Option.{same_Some, slice_get_within}
use Rattle.udf_field.specs.declared.address.Addr.{Addr}
use Rattle.udf_tree_model.specs.Among.{Member}
use Rattle.udf_tree_model.specs.Rounds.{Graph, Walk, reached, round_of}
use Rattle.udf_tree_model.proofs.Reached.{IsWithin as HasPlaces, round_reached, round_shortest, walk_round}
use Rattle.udf_kept.specs.declared.fitted.Selected.{Selected}
use Rattle.udf_held.specs.declared.held.Held.{Held}
use Rattle.udf_kept.proofs.Layering.{none_some, start_inside}
use Rattle.udf_kept.specs.Depths.{AreDepths, HasDepth, Way, edges}

-- the entry at an index stands at an address
pub record StandsAt (hs : List Held) (i : ℕ) (a : Addr) : Type 0 where
  pub entry : Held
  pub there : slice_get hs i ≡ Some entry
  pub at : entry.at ≡ a

-- a graph over addresses as starts and edges of indexes; edges from what is reached are enough
pub record Depicts (g : Graph) (hs : List Held) (starts : List Bool) (xs : List Selected) (least : ℕ) : Type 0 where
  pub within : HasPlaces g
  pub few : length starts ≡ length hs
  pub once : (i j : ℕ) (a : Addr) → StandsAt hs i a → StandsAt hs j a → i ≡ j
  pub start_in : (i : ℕ) (h : Held) → slice_get hs i ≡ Some h → get_or starts i false ≡ true → g.start h.at ≡ true
  pub start_at : (a : Addr) → g.start a ≡ true → (i : ℕ) × StandsAt hs i a × (get_or starts i false ≡ true)
  pub edge_in : (i j : ℕ) (h : Held) → slice_get hs i ≡ Some h → Member j (edges least xs i) → (a : Addr) × StandsAt hs j a × (g.edge h.at a ≡ true)
  pub edge_at : (i : ℕ) (h : Held) (a : Addr) → slice_get hs i ≡ Some h → reached g h.at ≡ true → g.edge h.at a ≡ true → (j : ℕ) × StandsAt hs j a × Member j (edges least xs i)

-- the depth of an address
abbrev pub DepthIs : Graph → Addr → Option ℕ → Type 0
DepthIs g a None = reached g a ≡ false
DepthIs g a (Some k) = (reached g a ≡ true) × (k ≡ round_of g a)

some_at : {X : Type 0} (xs : List X) (i : ℕ) → i < length xs → (x : X) × (slice_get xs i ≡ Some x)
some_at [] i l = absurd (omega (arith, l))
some_at (x ∷ xs) zero l = (x, refl)
some_at (x ∷ xs) (suc i) l = some_at xs i (omega (arith, l))

module _ (g : Graph) (hs : List Held) (starts : List Bool) (xs : List Selected) (least : ℕ) (d : Depicts g hs starts xs least) where
  way_walk : (k i : ℕ) → Way starts xs least k i → (a : Addr) × StandsAt hs i a × Walk g k a
  way_walk zero i e =
      let r = some_at hs i (let l = start_inside starts i e in omega (arith, l, d.few)) in
      (r.0.at, record { entry = r.0; there = r.1; at = refl }, d.start_in i r.0 r.1 e)
  way_walk (suc k) i w =
      let r = way_walk k w.0 w.1 in
      let e = d.edge_in w.0 i r.1.entry r.1.there w.2 in
      (e.0, e.1, (r.1.entry.at, subst (λ (a : Addr). Walk g k a) (sym r.1.at) r.2, e.2))

  module _ (ds : List (Option ℕ)) (n : AreDepths starts xs least ds) where
    walk_depth : (k : ℕ) (a : Addr) → Walk g k a → (i : ℕ) × StandsAt hs i a × HasDepth ds i k
    walk_depth zero a w =
        let r = d.start_at a w in
        (r.0, r.1, (0, omega arith, n.begins r.0 r.2))
    walk_depth (suc k) a w =
        let r = walk_depth k w.0 w.1 in
        let x = r.1 in
        let here : reached g x.entry.at ≡ true = round_reached g d.within k x.entry.at (walk_round g d.within k x.entry.at (subst (λ (b : Addr). Walk g k b) (sym x.at) w.1)) in
        let e = d.edge_at r.0 x.entry a x.there here (subst (λ (b : Addr). g.edge b a ≡ true) (sym x.at) w.2) in
        let l = slice_get_within hs e.0 e.1.entry e.1.there in
        let m = n.closed r.0 r.2.0 e.0 r.2.2 e.2 (omega (arith, l, d.few)) in
        (e.0, e.1, (m.0, let p = m.1 in let q = r.2.1 in omega (arith, p, q), m.2))

    -- each entry has the depth of its address
    pub depth_is : (i : ℕ) (h : Held) → slice_get hs i ≡ Some h → DepthIs g h.at (get_or ds i None)
    depth_is i h there = by_depth (get_or ds i None) refl
      where
        own : StandsAt hs i h.at
        own = record { entry = h; there = there; at = refl }

        by_reached : (b : Bool) → reached g h.at ≡ b → get_or ds i None ≡ None → reached g h.at ≡ false
        by_reached false r e = r
        by_reached true r e =
            let w = walk_depth (round_of g h.at) h.at (round_shortest g d.within h.at r).walk in
            let same : w.0 ≡ i = d.once w.0 i h.at w.1 own in
            absurd (none_some w.2.0 (sym e ∙ ap (λ (j : ℕ). get_or ds j None) (sym same) ∙ w.2.2))

        by_depth : (o : Option ℕ) → get_or ds i None ≡ o → DepthIs g h.at o
        by_depth None e = by_reached (reached g h.at) refl e
        by_depth (Some k) e =
            let w = way_walk k i (n.way i k e) in
            let x = w.1 in
            let entry : x.entry ≡ h = same_Some x.entry h (sym x.there ∙ there) in
            let walk : Walk g k h.at = subst (λ (a : Addr). Walk g k a) (sym x.at ∙ ap (λ (y : Held). y.at) entry) w.2 in
            let r : reached g h.at ≡ true = round_reached g d.within k h.at (walk_round g d.within k h.at walk) in
            let s = round_shortest g d.within h.at r in
            let low = s.shortest k walk in
            let v = walk_depth (round_of g h.at) h.at s.walk in
            let same : v.0 ≡ i = d.once v.0 i h.at v.1 own in
            let depth : v.2.0 ≡ k = same_Some v.2.0 k (sym v.2.2 ∙ ap (λ (j : ℕ). get_or ds j None) same ∙ e) in
            let high = v.2.1 in
            (r, omega (arith, low, depth, high))
