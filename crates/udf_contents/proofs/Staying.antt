-- Contents that need no mend: what is kept of entries tells the rules on links.
use Rattle.std.proofs.Common.{◌≡◌, ℕ, zero, suc, ◌+◌, ◌<◌, List, [], ◌∷◌, get_or, drop, length, ◌≤◌, Bool, true, false, cond, ◌&&◌, ◌||◌, not, nat_eq, Option, Some, None, refl, sym, ap, ◌∙◌, subst}
use Rattle.std.specs.Prelude.{is_none, is_some, slice_get}
use Rattle.std.specs.List.{list_all}
use Rattle.std.proofs.lemmas.Bool.{and_parts}
use Rattle.std.proofs.lemmas.List.{drop_more, drop_all}
use Rattle.std.proofs.lemmas.Option.{same_Some, get_or_from_slice_get}
use Rattle.udf_field.specs.declared.address.Addr.{Addr}
use Rattle.udf_file_model.specs.Listing.{Volume}
use Rattle.udf_tree_model.specs.Chosen.{chosen, chosen_link}
use Rattle.udf_tree_model.specs.Frame.{Frame, content_to, entry_at, holder_node, is_file_set, is_holder, is_start, links_of, node_by, node_with, own_item, setting_of, stream_of, tree_of}
use Rattle.udf_tree_model.specs.Node.{Node, Setting, Tree, is_entry, is_none_of, node_at, node_or}
use Rattle.udf_tree_model.specs.Won.{sound}
use Rattle.udf_tree_model.proofs.Keeping.{sound_found}
use Rattle.udf_tree_model.proofs.Stating.{node_is}
use Rattle.udf_kept.specs.declared.fitted.Choice.{Choice}
use Rattle.udf_kept.specs.declared.fitted.Selected.{Selected}
use Rattle.udf_held.specs.declared.held.Held.{Held}
use Rattle.udf_found.specs.declared.link.Link.{Link}
use Rattle.udf_found.specs.declared.shape.Shape.{Shape}
use Rattle.udf_kept.specs.Fitted.{AreSelectedOf, IsChoice, IsSelected}
use Rattle.udf_held.specs.Held.{IsHeld, IsHeldOf}
use Rattle.udf_kept.specs.Indexed.{IsIndex}
use Rattle.udf_found.specs.Linked.{is_first}
use Rattle.udf_kept.specs.Selects.{is_rank_at}
use Rattle.udf_found.specs.Shape.{IsShaped}
use Rattle.udf_contents.specs.Stays.{Tells, choice_by, link_holds, target_holds}
use Rattle.udf_found.proofs.Beginning.{holder_start}
use Rattle.udf_kept.proofs.Choosing.{held_for}
use Rattle.udf_kept.proofs.Indexing.{held_at}

-- ---- the target of a link
module _ (f : Frame) (v : Volume) where
  abbrev s : Setting
  s = setting_of f v

  abbrev t : Tree
  t = tree_of f v

  -- the holder of the pointer to the system stream directory has no block of its own
  holder_own : (a : Addr) → is_holder f v a ≡ true → is_none_of (node_at t a).own ≡ true
  unfolding node_at tree_of is_holder
  holder_own a h = by f.system (and_parts (is_some f.system) (is_file_set f v a) h)
    where
      by : (o : Option Addr) → (is_some o ≡ true) × (is_file_set f v a ≡ true) → is_none_of (node_or (Rattle.udf_tree_model.specs.Frame.holder_by o (is_file_set f v a) (node_by f v a (entry_at v a)))).own ≡ true
      by None k = cc
      by (Some x) k = ap (λ (b : Bool). is_none_of (node_or (cond b (Some (holder_node x)) (node_by f v a (entry_at v a)))).own) k.1

  -- what has a shape is an entry
  pub entry_is : (a : Addr) (o : Option Shape) → IsShaped f v a o → is_entry s t a ≡ is_some o
  unfolding is_entry setting_of node_with
  entry_is a None h =
      ap (λ (b : Bool). not (b && is_none_of (node_at t a).own)) (holder_start f v a h).0
      ∙ ap not (holder_own a h)
  entry_is a (Some x) (other, e, there, shape) =
      ap (λ (n : Node). not (is_start f a && is_none_of n.own)) (node_is f v a e there other) ∙ never (is_start f a)
    where
      never : (b : Bool) → not (b && false) ≡ true
      never true = refl
      never false = refl

  module _ (h : Held) (i : IsHeld s t h) (o : IsHeldOf f v h) (d : Addr) (place : ℕ) where
    target_is : target_holds s t d place h.at ≡ ((h.sound && is_some h.shape) && (not h.directory || (not h.is_start && is_rank_at d place (chosen s t h.at))))
    unfolding target_holds
    target_is =
        ap (λ b. (b && is_entry s t h.at) && (not (node_at t h.at).directory || (not (s.start h.at) && is_rank_at d place (chosen s t h.at)))) (sym i.sound_is)
        ∙ ap (λ b. (h.sound && b) && (not (node_at t h.at).directory || (not (s.start h.at) && is_rank_at d place (chosen s t h.at)))) (entry_is h.at h.shape o.shape)
        ∙ ap (λ b. (h.sound && is_some h.shape) && (not b || (not (s.start h.at) && is_rank_at d place (chosen s t h.at)))) (sym i.directory)
        ∙ ap (λ b. (h.sound && is_some h.shape) && (not h.directory || (not b && is_rank_at d place (chosen s t h.at)))) (sym i.start)

    pub target_broken : (h.sound && is_some h.shape) ≡ false → false ≡ target_holds s t d place h.at
    target_broken e = sym (target_is ∙ ap (λ b. b && (not h.directory || (not h.is_start && is_rank_at d place (chosen s t h.at)))) e)

    target_stands : (h.sound && is_some h.shape) ≡ true → (not h.directory || (not h.is_start && is_rank_at d place (chosen s t h.at))) ≡ target_holds s t d place h.at
    target_stands e = sym (target_is ∙ ap (λ b. b && (not h.directory || (not h.is_start && is_rank_at d place (chosen s t h.at)))) e)

    pub file_stands : (h.sound && is_some h.shape) ≡ true → h.directory ≡ false → true ≡ target_holds s t d place h.at
    file_stands e k = sym (ap (λ b. not b || (not h.is_start && is_rank_at d place (chosen s t h.at))) k) ∙ target_stands e

    pub start_falls : (h.sound && is_some h.shape) ≡ true → h.directory ≡ true → h.is_start ≡ true → false ≡ target_holds s t d place h.at
    start_falls e k b =
        sym (ap (λ x. not x || (not h.is_start && is_rank_at d place (chosen s t h.at))) k ∙ ap (λ x. not x && is_rank_at d place (chosen s t h.at)) b) ∙ target_stands e

    pub chosen_stands : (h.sound && is_some h.shape) ≡ true → h.directory ≡ true → h.is_start ≡ false → is_rank_at d place (chosen s t h.at) ≡ target_holds s t d place h.at
    chosen_stands e k b =
        sym (ap (λ x. not x || (not h.is_start && is_rank_at d place (chosen s t h.at))) k ∙ ap (λ x. not x && is_rank_at d place (chosen s t h.at)) b) ∙ target_stands e

  -- what is selected of an entry
  pub selected_at : (all hs : List Held) (xs : List Selected) (i : ℕ) (h : Held) → AreSelectedOf s t all hs xs → slice_get hs i ≡ Some h → (x : Selected) × (slice_get xs i ≡ Some x) × IsSelected s t all h x
  selected_at all [] xs i h k e = cc
  selected_at all (m ∷ ms) [] i h k e = absurd k
  selected_at all (m ∷ ms) (y ∷ ys) zero h k e = (y, refl, subst (λ (z : Held). IsSelected s t all z y) (same_Some m h e) k.0)
  selected_at all (m ∷ ms) (y ∷ ys) (suc i) h k e = selected_at all ms ys i h k.1 e

  -- ---- a link of a holder
  module _ (hs : List Held) (xs : List Selected) (k : Tells f v hs xs) (position : Addr → Option ℕ) (index : IsIndex hs position) (d : Addr) where
    pub target_missing : (a : Addr) (place : ℕ) → position a ≡ None → false ≡ target_holds s t d place a
    unfolding target_holds
    target_missing a place e = by (sound s t a) refl
      where
        rest : Bool
        rest = not (node_at t a).directory || (not (s.start a) && is_rank_at d place (chosen s t a))

        by : (b : Bool) → sound s t a ≡ b → false ≡ ((b && is_entry s t a) && rest)
        by false q = refl
        by true q = let x = held_for s t hs k.held.held a (sound_found s t a q) in absurd (index.all a e x.0 x.1 x.2)

    -- the held entry at a position
    pub target_there : (a : Addr) (i : ℕ) (h : Held) → position a ≡ Some i → h ≡ get_or hs i h → (slice_get hs i ≡ Some h) × (h.at ≡ a)
    target_there a i h e is =
        let y = held_at hs i a (index.there a i e) in
        let same : h ≡ y.0 = is ∙ get_or_from_slice_get hs i y.0 h y.1 in
        (y.1 ∙ ap Some (sym same), ap (λ (z : Held). z.at) same ∙ y.2)

    pub link_by : (l : Link) → nat_eq l.place 0 ≡ false → is_some l.earlier ≡ false → (b : Bool) → b ≡ target_holds s t d l.place l.target → b ≡ link_holds s t d l
    link_by l p e b h = h ∙ sym (ap (λ (x : Bool). x || (is_first l && target_holds s t d l.place l.target)) p ∙ ap (λ x. x && target_holds s t d l.place l.target) (by l.earlier e))
      where
        by : (o : Option ℕ) → is_some o ≡ false → is_none o ≡ true
        by None q = refl
        by (Some n) q = cc

    -- the choice at an index
    pub choice_at : (i : ℕ) (h : Held) (o : Option Choice) → slice_get hs i ≡ Some h → o ≡ choice_by (slice_get xs i) → h.directory ≡ true → IsChoice hs (λ x. x.level) (chosen_link s t h.at) o
    choice_at i h o e c d =
        let x = selected_at hs hs xs i h k.selected.each e in
        subst (IsChoice hs (λ x. x.level) (chosen_link s t h.at)) (sym (c ∙ ap choice_by x.1)) (x.2.choice d)

-- ---- all links of a holder
module _ (p : Link → Bool) (ls : List Link) (i : ℕ) where
  module _ (l : Link) (low : i < length ls) (is : l ≡ get_or ls i l) where
    opened : list_all p (drop i ls) ≡ (p l && list_all p (drop (i + 1) ls))
    opened = ap (list_all p) (drop_more ls i l low ∙ ap (λ (y : Link). y ∷ drop (i + 1) ls) (sym is))

    pub all_here : (b : Bool) → b ≡ p l → b ≡ false → list_all p (drop i ls) ≡ list_all p ls → false ≡ list_all p ls
    all_here b e k h = sym (ap (λ x. x && list_all p (drop (i + 1) ls)) (sym e ∙ k)) ∙ sym opened ∙ h

    pub all_later : (b : Bool) → b ≡ p l → b ≡ true → list_all p (drop i ls) ≡ list_all p ls → list_all p (drop (i + 1) ls) ≡ list_all p ls
    all_later b e k h = sym (ap (λ x. x && list_all p (drop (i + 1) ls)) (sym e ∙ k)) ∙ sym opened ∙ h

  pub all_end : length ls ≤ i → list_all p (drop i ls) ≡ list_all p ls → true ≡ list_all p ls
  all_end low h = sym (ap (list_all p) (drop_all i ls low)) ∙ h
