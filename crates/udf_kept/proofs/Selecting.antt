-- Which links are selected, and which is chosen, by the positions of entries and the first link to each address.
use Rattle.std.proofs.Common.{◌≡◌, ℕ, ◌+◌, ◌<◌, List, [], ◌∷◌, ◌++◌, length, take, get_or, Bool, true, false, ◌&&◌, not, cond, Option, Some, None, refl, sym, ap, ◌∙◌, subst}
use Rattle.std.specs.Prelude.{IfSome, is_none, is_some, nat_eq, option_map}
use Rattle.std.specs.Bool.{then_some}
use Rattle.std.specs.List.{slice_get}
use Rattle.std.proofs.lemmas.List.{take_more}
use Rattle.std.proofs.lemmas.Option.{get_or_from_slice_get}
use Rattle.udf_field.specs.declared.address.Addr.{Addr}
use Rattle.udf_tree_model.specs.Among.{Member}
use Rattle.udf_tree_model.specs.Chosen as model
use Rattle.udf_tree_model.specs.Chosen.{chosen, rank_of}
use Rattle.udf_tree_model.specs.Found.{level}
use Rattle.udf_tree_model.specs.Node.{Setting, Tree, node_at}
use Rattle.udf_tree_model.specs.Won.{sound}
use Rattle.udf_tree_model.proofs.Choosing.{chosen_offer}
use Rattle.udf_tree_model.proofs.Keeping.{sound_found}
use Rattle.udf_kept.specs.declared.choices.Rank.{Rank}
use Rattle.udf_kept.specs.declared.fitted.Selected.{Selected}
use Rattle.udf_held.specs.declared.held.Held.{Held}
use Rattle.udf_found.specs.declared.link.Link.{Link}
use Rattle.udf_kept.specs.Fitted.{AreSelectedOf, IsSelected}
use Rattle.udf_held.specs.Held.{IsHeld}
use Rattle.udf_found.specs.Linked.{outline_seen}
use Rattle.udf_kept.specs.Indexed.{IsIndex}
use Rattle.udf_kept.specs.Offers.{Knows, rank_seen}
use Rattle.udf_kept.specs.Selects.{is_rank_at, is_selected, selects_by}
use Rattle.udf_kept.proofs.Choosing.{held_for, level_is}
use Rattle.udf_kept.proofs.Indexing.{held_at, member_of_get}

-- a number that is told by a test
pub some_by : (b : Bool) (i : ℕ) → is_some (then_some b i) ≡ b
some_by true i = refl
some_by false i = refl

pub some_at : (b : Bool) (i : ℕ) (P : ℕ → Type 0) → P i → IfSome (then_some b i) P
some_at true i P p = p
some_at false i P p = tt

module _ (s : Setting) (t : Tree) (hs : List Held) (first : Addr → Option Rank) (k : Knows s t hs first) where
  -- no entry that is sound has no position
  not_sound : (a : Addr) (position : Addr → Option ℕ) → IsIndex hs position → position a ≡ None → sound s t a ≡ false
  not_sound a position i e = by_sound (sound s t a) refl
    where
      by_sound : (b : Bool) → sound s t a ≡ b → sound s t a ≡ false
      by_sound false f = f
      by_sound true f = let x = held_for s t hs k.held a (sound_found s t a f) in absurd (i.all a e x.0 x.1 x.2)

  -- ---- a link is selected
  module _ (holder : Addr) (l : Link) where
    abbrev keeps : Held → Bool
    keeps x = x.sound && cond x.directory (not x.is_start && is_rank_at holder l.place (option_map rank_seen (first l.target))) (not (nat_eq l.place 0))

    pub earlier_not : is_some l.earlier ≡ true → false ≡ is_selected s t holder l
    earlier_not e = by_earlier l.earlier e
      where
        by_earlier : (o : Option ℕ) → is_some o ≡ true → false ≡ (is_none o && selects_by s t holder (outline_seen l))
        by_earlier None f = cc
        by_earlier (Some x) f = refl

    named : is_some l.earlier ≡ false → selects_by s t holder (outline_seen l) ≡ is_selected s t holder l
    named e = by_earlier l.earlier e
      where
        by_earlier : (o : Option ℕ) → is_some o ≡ false → selects_by s t holder (outline_seen l) ≡ (is_none o && selects_by s t holder (outline_seen l))
        by_earlier None f = refl
        by_earlier (Some x) f = cc

    pub missing_not : (position : Addr → Option ℕ) → IsIndex hs position → is_some l.earlier ≡ false → position l.target ≡ None → false ≡ is_selected s t holder l
    unfolding selects_by
    missing_not position i e f =
        ap (λ b. b && cond (node_at t l.target).directory (not (s.start l.target) && is_rank_at holder l.place (chosen s t l.target)) (not (nat_eq l.place 0))) (sym (not_sound l.target position i f))
        ∙ named e

    keeps_is : (x : Held) → IsHeld s t x → x.at ≡ l.target → keeps x ≡ selects_by s t holder (outline_seen l)
    unfolding selects_by
    keeps_is x h e =
        ap (λ b. b && cond x.directory (not x.is_start && is_rank_at holder l.place (option_map rank_seen (first l.target))) (not (nat_eq l.place 0))) (h.sound_is ∙ ap (sound s t) e)
        ∙ ap (λ b. sound s t l.target && cond b (not x.is_start && is_rank_at holder l.place (option_map rank_seen (first l.target))) (not (nat_eq l.place 0))) (h.directory ∙ ap (λ a. (node_at t a).directory) e)
        ∙ ap (λ b. sound s t l.target && cond (node_at t l.target).directory (not b && is_rank_at holder l.place (option_map rank_seen (first l.target))) (not (nat_eq l.place 0))) (h.start ∙ ap s.start e)
        ∙ ap (λ o. sound s t l.target && cond (node_at t l.target).directory (not (s.start l.target) && is_rank_at holder l.place o) (not (nat_eq l.place 0))) (k.choices.is l.target)

    pub kept_is : (position : Addr → Option ℕ) (i : ℕ) (x : Held) → IsIndex hs position → is_some l.earlier ≡ false → position l.target ≡ Some i → x ≡ get_or hs i x
        → keeps x ≡ is_selected s t holder l
    kept_is position i x h e f is =
        let y = held_at hs i l.target (h.there l.target i f) in
        let same : x ≡ y.0 = is ∙ get_or_from_slice_get hs i y.0 x y.1 in
        let m : Member x hs = subst (λ (z : Held). Member z hs) (sym same) (member_of_get hs i y.0 y.1) in
        keeps_is x (k.held.each x m) (ap (λ (z : Held). z.at) same ∙ y.2) ∙ named e

  -- ---- the chosen link to an entry
  pub no_choice : (a : Addr) → first a ≡ None → chosen s t a ≡ None
  no_choice a e = sym (k.choices.is a) ∙ ap (option_map rank_seen) e

  rank_chosen : (a : Addr) (r : Rank) → first a ≡ Some r → chosen s t a ≡ Some (rank_seen r)
  rank_chosen a r e = sym (k.choices.is a) ∙ ap (option_map rank_seen) e

  pub choice_there : (a : Addr) (r : Rank) (position : Addr → Option ℕ) → IsIndex hs position → first a ≡ Some r → position r.holder ≡ None → ⊥
  unfolding rank_of
  choice_there a r position i e f =
      let o = chosen_offer s t a (rank_seen r) (rank_chosen a r e) in
      let holder : r.holder ≡ o.0 = ap (λ (x : model.Rank). x.holder) o.3 in
      let x = held_for s t hs k.held o.0 (sound_found s t o.0 o.2.holder) in
      i.all r.holder f x.0 x.1 (x.2 ∙ sym holder)

  pub choice_is : (a : Addr) (r : Rank) (position : Addr → Option ℕ) (i : ℕ) → IsIndex hs position → first a ≡ Some r → position r.holder ≡ Some i
      → (x : Held) × (slice_get hs i ≡ Some x) × (chosen s t a ≡ Some (record { level = x.level; holder = x.at; place = r.place }))
  unfolding rank_of
  choice_is a r position i h e f =
      let o = chosen_offer s t a (rank_seen r) (rank_chosen a r e) in
      let holder : r.holder ≡ o.0 = ap (λ (x : model.Rank). x.holder) o.3 in
      let x = held_at hs i r.holder (h.there r.holder i f) in
      let level : r.level ≡ x.0.level =
      ap (λ (y : model.Rank). y.level) o.3 ∙ ap (level s t) (sym holder ∙ sym x.2) ∙ sym (level_is s t hs k.held x.0 (member_of_get hs i x.0 x.1)) in
      (x.0, x.1, rank_chosen a r e ∙ ap (λ n. made n r.holder) level ∙ ap (made x.0.level) (sym x.2))
    where
      made : ℕ → Addr → Option model.Rank
      made n b = Some (record { level = n; holder = b; place = r.place })

-- ---- one entry more
selected_push : (s : Setting) (t : Tree) (all hs : List Held) (xs : List Selected) (h : Held) (x : Selected) → AreSelectedOf s t all hs xs → IsSelected s t all h x
    → AreSelectedOf s t all (hs ++ h ∷ []) (xs ++ x ∷ [])
selected_push s t all [] [] h x k i = (i, tt)
selected_push s t all [] (y ∷ ys) h x k i = absurd k
selected_push s t all (m ∷ ms) [] h x k i = absurd k
selected_push s t all (m ∷ ms) (y ∷ ys) h x k i = (k.0, selected_push s t all ms ys h x k.1 i)

pub selected_more : (s : Setting) (t : Tree) (hs : List Held) (i : ℕ) (h : Held) (xs new : List Selected) (x : Selected) → i < length hs → h ≡ get_or hs i h → new ≡ xs ++ x ∷ []
    → IsSelected s t hs h x → AreSelectedOf s t hs (take i hs) xs → AreSelectedOf s t hs (take (i + 1) hs) new
selected_more s t hs i h xs new x l e p k was =
    let more : take (i + 1) hs ≡ take i hs ++ h ∷ [] = take_more hs i h l ∙ ap (λ (m : Held). take i hs ++ m ∷ []) (sym e) in
    subst (λ (r : List Held). AreSelectedOf s t hs r new) (sym more) (subst (AreSelectedOf s t hs (take i hs ++ h ∷ [])) (sym p) (selected_push s t hs (take i hs) xs h x was k))
