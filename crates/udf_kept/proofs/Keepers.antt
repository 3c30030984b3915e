-- What is kept of found entries, by their indexes.
use Rattle.std.proofs.Common.{◌≡◌, ℕ, suc, ◌<◌, List, [], ◌∷◌, length, map, get_or, Bool, true, false, refl, sym, ap, ◌∙◌, subst, arith, Option, Some, None}
use Rattle.std.specs.Prelude.{nat_le, slice_get}
use Rattle.std.proofs.lemmas.Bool.{false≢true}
use Rattle.std.proofs.lemmas.Bool.Decides.{nat_tests}
use Rattle.std.proofs.lemmas.List.{length-map}
use Rattle.std.proofs.lemmas.Option.{same_Some, slice_get_within}
use Rattle.udf_field.specs.declared.address.Addr.{Addr}
use Rattle.udf_tree_model.specs.Among.{Member}
use Rattle.udf_tree_model.specs.Link.{Link, target_of}
use Rattle.udf_tree_model.specs.Node.{Setting, Tree}
use Rattle.udf_tree_model.specs.Chosen.{Rank, comes_before, fitted}
use Rattle.udf_tree_model.specs.Kept.{depth, kept, kept_graph}
use Rattle.udf_tree_model.specs.Parent.{keeping, keeping_rank}
use Rattle.udf_tree_model.specs.Laws.{HasSoundStarts, IsWithin, KeepsBy}
use Rattle.udf_tree_model.proofs.Members.{contains_of, member_of}
use Rattle.udf_tree_model.proofs.Keeping.{edge_from, edge_gives, kept_found, kept_places, kept_sound, sound_found}
use Rattle.udf_tree_model.proofs.Parents.{keeping_by, keeping_first, keeping_none}
use Rattle.udf_kept.specs.declared.fitted.Selected.{Selected}
use Rattle.udf_held.specs.declared.held.Held.{Held}
use Rattle.udf_kept.specs.declared.keeping.Keeping.{Keeping}
use Rattle.udf_kept.specs.declared.first_links.KeepingLink.{KeepingLink}
use Rattle.udf_held.specs.Held.{AreHeld}
use Rattle.udf_kept.specs.Fitted.{AreSelected, IsChoice}
use Rattle.udf_kept.specs.Keeping.{AreKept, AreKeptOf, IsKeeping}
use Rattle.udf_kept.specs.Depths.{AreDepths}
use Rattle.udf_kept.specs.FirstLinks.{ArePut, IsFirst, Told, choice_seen, keeping_seen, links_at, links_below, rank_seen, told, told_by}
use Rattle.udf_kept.proofs.Depicting.{DepthIs, Depicts, StandsAt, depth_is}
use Rattle.udf_kept.proofs.ByIndex.{edge_link, fitted_at, fitted_in, found_stands, link_edge, member_at, once_at, selected_at, stands_same, test_at}
use Rattle.udf_kept.proofs.Parenting.{IsToldBy, at_gives, at_has, before_same, below_gives, below_has}

no_link : (m : KeepingLink) → None ≡ Some m → ⊥
no_link m e = cc

least_place : (n : ℕ) → nat_le 0 n ≡ true
least_place n = grind (arith, nat_tests)

rank_placed : (s : Setting) (t : Tree) (d : Addr) (l : Link) (r : Rank) → r ≡ keeping_rank s t d l → record { level = depth s t d; holder = d; place = r.place } ≡ keeping_rank s t d l
unfolding keeping_rank
rank_placed s t d l r k = ap (λ (n : ℕ). made n) (ap (λ (z : Rank). z.place) k)
  where
    made : ℕ → Rank
    made n = record { level = depth s t d; holder = d; place = n }

module _ (s : Setting) (t : Tree) (w : IsWithin s t) (c : HasSoundStarts s t) (hs : List Held) (held : AreHeld s t hs) (xs : List Selected) (selected : AreSelected s t hs xs) where
  kept_depicts : (starts : List Bool) → starts ≡ map (λ h. h.is_start) hs → Depicts (kept_graph s t) hs starts xs 0
  unfolding kept_graph kept
  kept_depicts starts e = record {
    within = kept_places s t w c;
    few = ap length e ∙ length-map hs (λ (h : Held). h.is_start);
    once = once_at s t hs held;
    start_in = λ i h k b. sym (start_is i h k) ∙ b;
    start_at = λ a b.
        let r = found_stands s t hs held a (sound_found s t a (c.starts a b)) in
        (r.0, r.1, start_is r.0 r.1.entry r.1.there ∙ ap s.start r.1.at ∙ b);
    edge_in = λ i j h k m.
        let x = selected_at s t hs held xs selected i h k in
        let l = edge_link 0 xs i j x.0 x.1 m in
        let r = fitted_in s t hs held xs selected i h x.0 l.0 k x.1 l.1 in
        (target_of r.0.says, subst (λ (n : ℕ). StandsAt hs n (target_of r.0.says)) (sym l.3) r.3, edge_from s t h.at (target_of r.0.says) r.0 r.1 refl);
    edge_at = λ i h a k r e.
        let g = edge_gives s t h.at a e in
        let b = fitted_at s t hs held xs selected i h g.0 k (kept_sound s t w c h.at r) g.1 in
        (b.2.to, subst (StandsAt hs b.2.to) g.2 b.5, link_edge 0 xs i b.0 b.2 b.1 b.3 (least_place b.2.place));
  }
    where
      start_is : (i : ℕ) (h : Held) → slice_get hs i ≡ Some h → get_or starts i false ≡ s.start h.at
      start_is i h k = ap (λ (bs : List Bool). get_or bs i false) e ∙ test_at (λ h. h.is_start) hs i h k ∙ (held.each h (member_at hs i h k)).start

  module _ (ds : List (Option ℕ)) (few : length ds ≡ length hs) (depths : (i : ℕ) (h : Held) → slice_get hs i ≡ Some h → DepthIs (kept_graph s t) h.at (get_or ds i None)) where
    -- a depth of the code is that of a kept entry
    depth_gives : (i : ℕ) (h : Held) (k : ℕ) → slice_get hs i ≡ Some h → get_or ds i None ≡ Some k → (kept s t h.at ≡ true) × (k ≡ depth s t h.at)
    unfolding kept depth
    depth_gives i h k e f = subst (DepthIs (kept_graph s t) h.at) f (depths i h e)

    depth_has : (i : ℕ) (h : Held) → slice_get hs i ≡ Some h → kept s t h.at ≡ true → (k : ℕ) × (get_or ds i None ≡ Some k)
    unfolding kept
    depth_has i h e r = go (get_or ds i None) refl (depths i h e)
      where
        go : (o : Option ℕ) → get_or ds i None ≡ o → DepthIs (kept_graph s t) h.at o → (k : ℕ) × (get_or ds i None ≡ Some k)
        go None f d = absurd (false≢true (sym d ∙ r))
        go (Some k) f d = (k, f)

    -- a link that is told keeps its target
    keeps_told : (i j : ℕ) (a : Addr) (m : KeepingLink) (b : IsToldBy hs xs i (get_or ds i None) (told j m)) → StandsAt hs j a
        → (l : Link) × KeepsBy s t a b.entry.at l × (rank_seen m ≡ keeping_rank s t b.entry.at l)
    unfolding keeping_rank
    keeps_told i j a m b x =
        let r = fitted_in s t hs held xs selected i b.entry b.links b.link b.entry_is b.links_is b.among in
        let to : j ≡ b.link.to = ap (λ (g : Told). g.to) b.is in
        let link : m ≡ (told_by i b.depth b.entry.at b.link).link = ap (λ (g : Told). g.link) b.is in
        let leads : target_of r.0.says ≡ a = stands_same hs j (target_of r.0.says) a (subst (λ (n : ℕ). StandsAt hs n (target_of r.0.says)) (sym to) r.3) x in
        let d = depth_gives i b.entry b.depth b.entry_is b.depth_is in (
          r.0,
          record { holder = d.0; among = contains_of (fitted s t b.entry.at) r.0 r.1; leads = leads },
          ap rank_seen link ∙ ap (λ (n : ℕ). made n b.entry.at b.link.place) d.1 ∙ ap (λ (n : ℕ). made (depth s t b.entry.at) b.entry.at n) r.2,
        )
      where
        made : ℕ → Addr → ℕ → Rank
        made l h p = record { level = l; holder = h; place = p }

    -- a link that keeps is told
    told_keeps : (j : ℕ) (a d : Addr) (l : Link) → KeepsBy s t a d l → StandsAt hs j a
        → (m : KeepingLink) × Member (told j m) (links_below hs xs ds (length ds)) × (rank_seen m ≡ keeping_rank s t d l)
    unfolding keeping_rank
    told_keeps j a d l k x =
        let r = found_stands s t hs held d (kept_found s t w c d k.holder) in
        let i = r.0 in
        let y = r.1 in
        let here : kept s t y.entry.at ≡ true = ap (kept s t) y.at ∙ k.holder in
        let n = depth_has i y.entry y.there here in
        let own : Member l (fitted s t y.entry.at) = subst (λ (z : Addr). Member l (fitted s t z)) (sym y.at) (member_of (fitted s t d) l k.among) in
        let f = fitted_at s t hs held xs selected i y.entry l y.there (kept_sound s t w c y.entry.at here) own in
        let to : f.2.to ≡ j = once_at s t hs held f.2.to j a (subst (StandsAt hs f.2.to) k.leads f.5) x in
        let inside = slice_get_within hs i y.entry y.there in
        let m : KeepingLink = record { depth = n.0; at = y.entry.at; choice = record { holder = i; place = f.2.place } } in
        let there = below_has hs xs ds (length ds) i (told_by i n.0 y.entry.at f.2) (omega (arith, inside, few)) (at_has hs xs i (get_or ds i None) n.0 y.entry f.0 f.2 n.1 y.there f.1 f.3) in
        let level : n.0 ≡ depth s t d = (depth_gives i y.entry n.0 y.there n.1).1 ∙ ap (depth s t) y.at in (
          m,
          subst (λ (o : ℕ). Member (told o m) (links_below hs xs ds (length ds))) to there,
          ap (λ (o : ℕ). made o y.entry.at f.2.place) level ∙ ap (λ (z : Addr). made (depth s t d) z f.2.place) y.at ∙ ap (λ (o : ℕ). made (depth s t d) d o) f.4,
        )
      where
        made : ℕ → Addr → ℕ → Rank
        made l h p = record { level = l; holder = h; place = p }

    module _ (first : List (Option KeepingLink)) (long : length first ≡ length ds) (least : IsFirst (links_below hs xs ds (length ds)) first) where
      -- the first link to an entry keeps it
      choice_is : (j : ℕ) (h : Held) → slice_get hs j ≡ Some h → IsChoice hs (λ d. depth s t d.at) (keeping s t h.at) (choice_seen (get_or first j None))
      choice_is j h there = by (get_or first j None) refl (keeping s t h.at) refl
        where
          x : StandsAt hs j h.at
          x = record { entry = h; there = there; at = refl }

          inside : j < length first
          inside = let l = slice_get_within hs j h there in omega (arith, l, few, long)

          -- what keeps it does not come before the first link
          low : (y : Rank) → keeping s t h.at ≡ Some y → (m : KeepingLink) × (get_or first j None ≡ Some m) × (comes_before y (rank_seen m) ≡ false)
          low y f =
              let k = keeping_by s t h.at y f in
              let r = told_keeps j h.at k.0 k.1 k.2 x in
              let b = least.low j r.0 r.1 inside in
              (b.0, b.1, ap (λ (z : Rank). comes_before z (rank_seen b.0)) (k.3 ∙ sym r.2) ∙ b.2)

          by : (o : Option KeepingLink) → get_or first j None ≡ o → (q : Option Rank) → keeping s t h.at ≡ q → IsChoice hs (λ d. depth s t d.at) (keeping s t h.at) (choice_seen o)
          by None e None f = f
          by None e (Some y) f = let r = low y f in absurd (no_link r.0 (sym e ∙ r.1))
          by (Some m) e q f = at (below_gives hs xs ds (length ds) (told j m) (least.there j m e))
            where
              at : (i : ℕ) × (i < length ds) × Member (told j m) (links_at hs xs i (get_or ds i None)) → IsChoice hs (λ d. depth s t d.at) (keeping s t h.at) (Some m.choice)
              at (i, l, n) =
                  let b = at_gives hs xs i (get_or ds i None) (told j m) n in
                  let k = keeps_told i j h.at m b x in
                  let link : m ≡ (told_by i b.depth b.entry.at b.link).link = ap (λ (g : Told). g.link) b.is in
                  let holder : m.choice.holder ≡ i = ap (λ (z : KeepingLink). z.choice.holder) link in
                  (b.entry, ap (slice_get hs) holder ∙ b.entry_is, rank b.entry.at k.0 k.1 k.2 q f ∙ ap Some (k.2 ∙ sym (rank_placed s t b.entry.at k.0 (rank_seen m) k.2)))
                where
                  rank : (d : Addr) (l : Link) → KeepsBy s t h.at d l → rank_seen m ≡ keeping_rank s t d l → (p : Option Rank) → keeping s t h.at ≡ p → keeping s t h.at ≡ Some (rank_seen m)
                  rank d l k i None g = absurd (keeping_none s t w c h.at g d l k)
                  rank d l k i (Some y) g =
                      let r = low y g in
                      let same : r.0 ≡ m = same_Some r.0 m (sym r.1 ∙ e) in
                      let over = ap (λ (z : KeepingLink). comes_before y (rank_seen z)) (sym same) ∙ r.2 in
                      let under = ap (λ (z : Rank). comes_before z y) i ∙ keeping_first s t w c h.at y g d l k in
                      g ∙ ap Some (before_same y (rank_seen m) over under)

      keeping_is : (i : ℕ) (h : Held) → slice_get hs i ≡ Some h → IsKeeping s t hs h (keeping_seen (get_or ds i None) (get_or first i None))
      unfolding kept depth
      keeping_is i h e = by (get_or ds i None) (depths i h e)
        where
          by : (o : Option ℕ) → DepthIs (kept_graph s t) h.at o → IsKeeping s t hs h (keeping_seen o (get_or first i None))
          by None d = d
          by (Some k) d = record { kept_is = d.0; depth_is = d.1; by = choice_is i h e }

      each_kept : (ys : List Held) (ks : List (Option Keeping)) → length ks ≡ length ys → ((i : ℕ) (h : Held) → slice_get ys i ≡ Some h → IsKeeping s t hs h (get_or ks i None)) → AreKeptOf s t hs ys ks
      each_kept [] [] l f = tt
      each_kept [] (k ∷ ks) l f = absurd (omega (arith, l))
      each_kept (y ∷ ys) [] l f = absurd (omega (arith, l))
      each_kept (y ∷ ys) (k ∷ ks) l f = (f 0 y refl, each_kept ys ks (omega (arith, l)) (λ i h e. f (suc i) h e))

      pub kept_all : (ks : List (Option Keeping)) → ArePut ds first ks → AreKept s t hs ks
      kept_all ks p = record {
        each = each_kept hs ks (p.len ∙ few)
            (λ i h e. subst (IsKeeping s t hs h) (sym (p.each i (let l = slice_get_within hs i h e in omega (arith, l, few)))) (keeping_is i h e));
      }

  pub are_kept : (starts : List Bool) (ds : List (Option ℕ)) (first : List (Option KeepingLink)) (ks : List (Option Keeping)) → starts ≡ map (λ h. h.is_start) hs → AreDepths starts xs 0 ds
      → length first ≡ length ds → IsFirst (links_below hs xs ds (length ds)) first → ArePut ds first ks → AreKept s t hs ks
  are_kept starts ds first ks e d l f p =
      let g = kept_depicts starts e in
      kept_all ds (d.len ∙ g.few) (depth_is (kept_graph s t) hs starts xs 0 g ds d) first l f ks p
