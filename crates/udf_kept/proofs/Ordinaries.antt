-- Which found entries are ordinary, by their indexes.
use Rattle.std.proofs.Common.{◌≡◌, ◌⊎◌, ℕ, suc, List, [], ◌∷◌, length, map, get_or, Bool, true, false, not, ◌&&◌, refl, sym, ap, ◌∙◌, subst, arith, inl, inr, Option, Some, None}
use Rattle.std.specs.Prelude.{is_some, nat_le, slice_get}
use Rattle.std.specs.List.{filter}
use Rattle.std.proofs.lemmas.Bool.{and_from, and_parts, or_left}
use Rattle.std.proofs.lemmas.Bool.Decides.{nat_tests}
use Rattle.std.proofs.lemmas.List.{length-map}
use Rattle.udf_field.specs.declared.address.Addr.{Addr}
use Rattle.udf_file_model.specs.Address.{same_addr}
use Rattle.udf_file_model.specs.Entry.{Entry}
use Rattle.udf_file_model.specs.Fid.{is_live}
use Rattle.udf_file_model.specs.Listing.{Volume, list_for}
use Rattle.udf_file_model.specs.Scan.{fids}
use Rattle.udf_tree_model.specs.Among.{Member}
use Rattle.udf_tree_model.specs.Link.{Link, fid_link, fid_links, is_pointer, pointer_links, target_of}
use Rattle.udf_tree_model.specs.Node.{Setting, Tree, node_at, node_or}
use Rattle.udf_tree_model.specs.Frame.{Frame, content_to, entry_at, holder_by, is_file_set, is_start, links_of, node_by, node_with, setting_of, stream_of, tree_of}
use Rattle.udf_tree_model.specs.Rounds.{reached}
use Rattle.udf_tree_model.specs.Found.{leads_to}
use Rattle.udf_tree_model.specs.Won.{kept_length, kept_links}
use Rattle.udf_tree_model.specs.Chosen.{fitted}
use Rattle.udf_tree_model.specs.Kept.{kept, kept_graph}
use Rattle.udf_tree_model.specs.Parent.{ordinary, ordinary_graph}
use Rattle.udf_tree_model.specs.Laws.{HasSoundStarts}
use Rattle.udf_tree_model.proofs.Members.{any_from, any_gives, member_append, member_of_map}
use Rattle.udf_tree_model.proofs.Reached.{IsWithin as HasPlaces, reached_least}
use Rattle.udf_tree_model.proofs.Places.{address_same, same_address}
use Rattle.udf_tree_model.proofs.Finding.{volume_within}
use Rattle.udf_tree_model.proofs.Keeping.{edge_from, fitted_gives, kept_places, kept_sound, kept_start, kept_target, sound_found}
use Rattle.udf_kept.specs.declared.fitted.Selected.{Selected}
use Rattle.udf_held.specs.declared.held.Held.{Held}
use Rattle.udf_held.specs.Held.{AreHeld}
use Rattle.udf_kept.specs.Fitted.{AreSelected}
use Rattle.udf_kept.specs.Depths.{AreDepths}
use Rattle.udf_kept.proofs.Depicting.{DepthIs, Depicts, StandsAt, depth_is}
use Rattle.udf_kept.proofs.ByIndex.{edge_link, fitted_at, fitted_in, found_stands, link_edge, once_at, selected_at, test_at}

-- ---- a FID is a link of a place from 1 on
abbrev pub HasItsPlace : Link → Type 0
HasItsPlace l = not (is_pointer l.says) ≡ nat_le 1 l.place

fid_place : (size : ℕ) (content : List ℕ) (l : Link) → Member l (fid_links size content) → HasItsPlace l
unfolding fid_links
fid_place size content l m =
    let x = member_of_map fid_link (filter (λ p. is_live p.1) (fids size content)) l m in
    subst (λ (y : Link). HasItsPlace y) (sym x.2) (above x.0.0)
  where
    above : (n : ℕ) → true ≡ nat_le 1 (suc n)
    above n = grind (arith, nat_tests)

pointer_place : (o : Option Addr) (l : Link) → Member l (pointer_links o) → HasItsPlace l
pointer_place None l m = absurd m
pointer_place (Some a) l (inl e) = subst (λ (y : Link). HasItsPlace y) (sym e) refl
pointer_place (Some a) l (inr m) = absurd m

links_place : (size : ℕ) (e : Entry) (content : List ℕ) (l : Link) → Member l (links_of size e content) → HasItsPlace l
unfolding links_of
links_place size e content l m = go (member_append (pointer_links (stream_of e.stream)) (fid_links size content) l m)
  where
    go : Member l (pointer_links (stream_of e.stream)) ⊎ Member l (fid_links size content) → HasItsPlace l
    go (inl k) = pointer_place (stream_of e.stream) l k
    go (inr k) = fid_place size content l k

volume_place : (f : Frame) (v : Volume) (d : Addr) (limit : ℕ) (l : Link) → Member l ((node_at (tree_of f v) d).links limit) → HasItsPlace l
unfolding node_at tree_of node_with
volume_place f v d limit l m = by_holder f.system (is_file_set f v d) m
  where
    by_entry : (o : Option Entry) → Member l ((node_or (node_by f v d o)).links limit) → HasItsPlace l
    by_entry None k = absurd k
    by_entry (Some i) k = links_place v.size i (content_to v i (list_for v d i) limit) l k

    by_holder : (o : Option Addr) (b : Bool) → Member l ((node_or (holder_by o b (node_by f v d (entry_at v d)))).links limit) → HasItsPlace l
    by_holder None b k = by_entry (entry_at v d) k
    by_holder (Some system) false k = by_entry (entry_at v d) k
    by_holder (Some system) true k = pointer_place (Some system) l k

module _ (f : Frame) (v : Volume) where
  abbrev s : Setting
  s = setting_of f v

  abbrev t : Tree
  t = tree_of f v

  pub fitted_place : (d : Addr) (l : Link) → Member l (fitted s t d) → HasItsPlace l
  unfolding kept_links
  fitted_place d l m = volume_place f v d (kept_length s t d) l (fitted_gives s t d l m).0

  edge_gives : (d a : Addr) → (ordinary_graph f v).edge d a ≡ true → (l : Link) × Member l (fitted s t d) × (not (is_pointer l.says) ≡ true) × (target_of l.says ≡ a)
  unfolding ordinary_graph
  edge_gives d a h =
      let r = any_gives (λ (l : Link). not (is_pointer l.says) && leads_to a l) (fitted s t d) h in
      let b = and_parts (not (is_pointer r.0.says)) (leads_to a r.0) r.2 in
      (r.0, r.1, b.0, same_address (target_of r.0.says) a b.1)

  edge_has : (d a : Addr) (l : Link) → Member l (fitted s t d) → not (is_pointer l.says) ≡ true → target_of l.says ≡ a → (ordinary_graph f v).edge d a ≡ true
  unfolding ordinary_graph
  edge_has d a l m b e =
      any_from (λ (x : Link). not (is_pointer x.says) && leads_to a x) (fitted s t d) l m
      (and_from (not (is_pointer l.says)) (leads_to a l) b (address_same (target_of l.says) a e))

  start_is : (a : Addr) → (ordinary_graph f v).start a ≡ true → s.start a ≡ true
  unfolding ordinary_graph setting_of is_start
  start_is a h = or_left (same_addr a f.root) _ h

  module _ (c : HasSoundStarts (setting_of f v) (tree_of f v)) where
    places : HasPlaces (ordinary_graph f v)
    unfolding ordinary_graph kept_graph
    places = record {
      starts = λ a h. (kept_places s t (volume_within f v) c).starts a (start_is a h);
      ends = λ d a h. let r = edge_gives d a h in (kept_places s t (volume_within f v) c).ends d a (edge_from s t d a r.0 r.1 r.3);
    }

    -- what is ordinary is kept
    pub ordinary_kept : (a : Addr) → reached (ordinary_graph f v) a ≡ true → kept s t a ≡ true
    ordinary_kept a h =
        (reached_least (ordinary_graph f v) places).least (kept s t)
        (record {
          starts = λ b e. kept_start s t (volume_within f v) c b (start_is b e);
          edges = λ d b k e. let r = edge_gives d b e in kept_target s t (volume_within f v) c d b k (edge_from s t d b r.0 r.1 r.3);
        }) a h

    module _ (hs : List Held) (held : AreHeld (setting_of f v) (tree_of f v) hs) (xs : List Selected) (selected : AreSelected (setting_of f v) (tree_of f v) hs xs) where
      ordinary_depicts : (root : Addr) (starts : List Bool) → f.root ≡ root → starts ≡ map (λ h. same_addr h.at root) hs → Depicts (ordinary_graph f v) hs starts xs 1
      unfolding ordinary_graph
      ordinary_depicts root starts same e = record {
        within = places;
        few = ap length e ∙ length-map hs (λ (h : Held). same_addr h.at root);
        once = once_at s t hs held;
        start_in = λ i h k b. sym (test_is i h k) ∙ b;
        start_at = λ a b.
            let r = found_stands s t hs held a (sound_found s t a (c.starts a (start_is a b))) in
            (r.0, r.1, test_is r.0 r.1.entry r.1.there ∙ ap (λ (z : Addr). same_addr z f.root) r.1.at ∙ b);
        edge_in = λ i j h k m.
            let x = selected_at s t hs held xs selected i h k in
            let l = edge_link 1 xs i j x.0 x.1 m in
            let r = fitted_in s t hs held xs selected i h x.0 l.0 k x.1 l.1 in
            let fid = fitted_place h.at r.0 r.1 ∙ ap (nat_le 1) (sym r.2) ∙ l.2 in
            (target_of r.0.says, subst (λ (n : ℕ). StandsAt hs n (target_of r.0.says)) (sym l.3) r.3, edge_has h.at (target_of r.0.says) r.0 r.1 fid refl);
        edge_at = λ i h a k r e.
            let g = edge_gives h.at a e in
            let b = fitted_at s t hs held xs selected i h g.0 k (kept_sound s t (volume_within f v) c h.at (ordinary_kept h.at r)) g.1 in
            let fid = ap (nat_le 1) b.4 ∙ sym (fitted_place h.at g.0 g.1) ∙ g.2 in
            (b.2.to, subst (StandsAt hs b.2.to) g.3 b.5, link_edge 1 xs i b.0 b.2 b.1 b.3 fid);
      }
        where
          test_is : (i : ℕ) (h : Held) → slice_get hs i ≡ Some h → get_or starts i false ≡ same_addr h.at f.root
          test_is i h k = ap (λ (bs : List Bool). get_or bs i false) e ∙ test_at (λ h. same_addr h.at root) hs i h k ∙ ap (same_addr h.at) (sym same)

      each_ordinary : (ys : List Held) (ds : List (Option ℕ)) → length ds ≡ length ys → ((i : ℕ) (h : Held) → slice_get ys i ≡ Some h → is_some (get_or ds i None) ≡ ordinary f v h.at)
          → map is_some ds ≡ map (λ h. ordinary f v h.at) ys
      each_ordinary [] [] l g = refl
      each_ordinary [] (d ∷ ds) l g = absurd (omega (arith, l))
      each_ordinary (y ∷ ys) [] l g = absurd (omega (arith, l))
      each_ordinary (y ∷ ys) (d ∷ ds) l g =
          ap (λ (b : Bool). b ∷ map is_some ds) (g 0 y refl)
          ∙ ap (λ (bs : List Bool). ordinary f v y.at ∷ bs) (each_ordinary ys ds (omega (arith, l)) (λ i h e. g (suc i) h e))

      pub are_ordinary : (root : Addr) (starts : List Bool) (ds : List (Option ℕ)) (bs : List Bool) → f.root ≡ root → starts ≡ map (λ h. same_addr h.at root) hs → AreDepths starts xs 1 ds
          → bs ≡ map is_some ds → bs ≡ map (λ h. ordinary f v h.at) hs
      unfolding ordinary
      are_ordinary root starts ds bs same e d b =
          let g = ordinary_depicts root starts same e in
          b ∙ each_ordinary hs ds (d.len ∙ g.few) (λ i h k. by h (get_or ds i None) (depth_is (ordinary_graph f v) hs starts xs 1 g ds d i h k))
        where
          by : (h : Held) (o : Option ℕ) → DepthIs (ordinary_graph f v) h.at o → is_some o ≡ reached (ordinary_graph f v) h.at
          by h None r = sym r
          by h (Some k) r = sym r.0
