-- The stream directories of kept entries, by the indexes of found entries.
use Rattle.std.proofs.Common.{◌≡◌, ◌⊎◌, ℕ, ◌+◌, ◌<◌, List, [], ◌∷◌, ◌++◌, length, map, take, get_or, nat_eq, Bool, true, false, not, ◌&&◌, cond, Option, Some, None, refl, sym, ap, ◌∙◌, subst, inl, inr}
use Rattle.std.specs.Prelude.{find, is_some, option_map, slice_get}
use Rattle.std.proofs.lemmas.Bool.{and_parts, false≢true}
use Rattle.std.proofs.lemmas.List.{map-append, take_more}
use Rattle.std.proofs.lemmas.Option.{same_Some, slice_get-map}
use Rattle.udf_field.specs.declared.address.Addr.{Addr}
use Rattle.udf_file_model.specs.Listing.{Volume}
use Rattle.udf_tree_model.specs.Among.{Member}
use Rattle.udf_tree_model.specs.Chosen.{chosen, fitted, is_rank, selects}
use Rattle.udf_tree_model.specs.Frame.{Frame, is_holder, setting_of, tree_of}
use Rattle.udf_tree_model.specs.Kept.{kept}
use Rattle.udf_tree_model.specs.Laws.{HasSoundStarts}
use Rattle.udf_tree_model.specs.Link.{Link, is_pointer, target_of}
use Rattle.udf_tree_model.specs.Node.{Setting, Tree, node_at}
use Rattle.udf_tree_model.specs.Won.{sound}
use Rattle.udf_tree_model.proofs.Finding.{volume_within}
use Rattle.udf_tree_model.proofs.Keeping.{edge_from, fitted_gives, kept_found, kept_sound, kept_start, kept_target}
use Rattle.udf_tree_model.proofs.Members.{member_append}
use Rattle.udf_kept.specs.declared.entries.Entries.{Entries}
use Rattle.udf_kept.specs.declared.fitted.Fitted.{Fitted}
use Rattle.udf_kept.specs.declared.fitted.Selected.{Selected}
use Rattle.udf_held.specs.declared.held.Held.{Held}
use Rattle.udf_tree.specs.declared.node.NodeId.{NodeId}
use Rattle.udf_found.specs.declared.shape.Shape.{Shape}
use Rattle.udf_kept.specs.Fitted.{Step, at_by, at_of, step_of, step_seen}
use Rattle.udf_tree.specs.Nodes.{AreSurveyed, IsNumbering, numbered}
use Rattle.udf_found.specs.Shape.{IsShaped}
use Rattle.udf_contents.specs.Stays.{fitted_by}
use Rattle.udf_tree.specs.Survey.{named_by, pointed_by, pointed_from, system_from}
use Rattle.udf_found.proofs.Beginning.{holder_start}
use Rattle.udf_kept.proofs.ByIndex.{found_stands, member_at, selected_at}
use Rattle.udf_tree.proofs.Enrolling.{entry_kept, has_kept, kept_has, kept_parts, starts}
use Rattle.udf_kept.proofs.Indexing.{held_at}
use Rattle.udf_found.proofs.Seeing.{holder_address}
use Rattle.udf_tree.proofs.Surveying.{heads}

-- ---- the first link of place 0
abbrev pub first_link : List Link → Option Link
first_link ls = find (λ l. nat_eq l.place 0) ls

abbrev pub first_fitted : List Fitted → Option Fitted
first_fitted xs = find (λ x. nat_eq x.place 0) xs

steps_first : (hs : List Held) (xs : List Fitted) (ls : List Link) → map (step_seen hs) xs ≡ map step_of ls
    → option_map (λ x. at_of hs x.to) (first_fitted xs) ≡ option_map (λ l. Some (target_of l.says)) (first_link ls)
steps_first hs [] [] e = refl
steps_first hs [] (l ∷ ls) e = cc
steps_first hs (x ∷ xs) [] e = cc
steps_first hs (x ∷ xs) (l ∷ ls) e = by (steps_first hs xs ls p.1) (nat_eq x.place 0) (ap (λ (n : ℕ). nat_eq n 0) (ap (λ (z : Step). z.place) p.0))
  where
    p : (step_seen hs x ≡ step_of l) × (map (step_seen hs) xs ≡ map step_of ls)
    p = heads (step_seen hs x) (step_of l) (map (step_seen hs) xs) (map step_of ls) e

    by : option_map (λ x. at_of hs x.to) (first_fitted xs) ≡ option_map (λ l. Some (target_of l.says)) (first_link ls) → (b : Bool) → b ≡ nat_eq l.place 0
        → option_map (λ x. at_of hs x.to) (cond b (Some x) (first_fitted xs)) ≡ option_map (λ l. Some (target_of l.says)) (cond (nat_eq l.place 0) (Some l) (first_link ls))
    by next true q = ap Some (ap (λ (z : Step). z.to) p.0) ∙ ap (λ (b : Bool). option_map (λ l. Some (target_of l.says)) (cond b (Some l) (first_link ls))) q
    by next false q = next ∙ ap (λ (b : Bool). option_map (λ l. Some (target_of l.says)) (cond b (Some l) (first_link ls))) q

first_member : (ls : List Link) (l : Link) → first_link ls ≡ Some l → Member l ls
first_member [] l e = cc
first_member (x ∷ ls) l e = by (first_member ls l) (nat_eq x.place 0) e
  where
    by : (first_link ls ≡ Some l → Member l ls) → (b : Bool) → cond b (Some x) (first_link ls) ≡ Some l → Member l (x ∷ ls)
    by next true q = inl (sym (same_Some x l q))
    by next false q = inr (next q)

-- ---- what a selected link leads to
selects_other : (s : Setting) (t : Tree) (d : Addr) (l : Link) → selects s t d l ≡ true → (node_at t (target_of l.says)).directory ≡ true → s.start (target_of l.says) ≡ false
unfolding selects
selects_other s t d l e dir =
    let p = and_parts (sound s t (target_of l.says)) _ e in
    by (s.start (target_of l.says)) (sym (ap (λ (b : Bool). cond b (not (s.start (target_of l.says)) && is_rank d l (chosen s t (target_of l.says))) (not (is_pointer l.says))) dir) ∙ p.1)
  where
    by : (b : Bool) → (not b && is_rank d l (chosen s t (target_of l.says))) ≡ true → b ≡ false
    by true q = absurd (false≢true q)
    by false q = refl

holder_begins : (f : Frame) (v : Volume) (a : Addr) → is_holder f v a ≡ true → (setting_of f v).start a ≡ true
unfolding setting_of
holder_begins f v a h = (holder_start f v a h).0

target_other : (f : Frame) (v : Volume) (d : Addr) (l : Link) → HasSoundStarts (setting_of f v) (tree_of f v) → selects (setting_of f v) (tree_of f v) d l ≡ true → is_holder f v (target_of l.says) ≡ false
target_other f v d l starts e = by (is_holder f v (target_of l.says)) refl
  where
    by : (b : Bool) → is_holder f v (target_of l.says) ≡ b → b ≡ false
    by false q = refl
    by true q =
        let begins = holder_begins f v (target_of l.says) q in
        absurd (false≢true (sym (selects_other (setting_of f v) (tree_of f v) d l e (starts.directories (target_of l.says) begins)) ∙ begins))

no_some : {X : Type 0} (x : X) → None ≡ Some x → ⊥
no_some x e = cc

module _ (f : Frame) (v : Volume) (root file_set : Addr) (e : Entries) (links ids : List ℕ) (k : AreSurveyed f v root file_set e links ids) where
  pub steps_are : (i : ℕ) (a : Addr) → at_of e.held.items i ≡ Some a → kept (setting_of f v) (tree_of f v) a ≡ true → map (step_seen e.held.items) (fitted_by (slice_get e.selected.items i)) ≡ map step_of (fitted (setting_of f v) (tree_of f v) a)
  steps_are i a at own =
      let s = setting_of f v in
      let t = tree_of f v in
      let r = held_at e.held.items i a at in
      let x = selected_at s t e.held.items k.entries.held.held e.selected.items k.entries.selected i r.0 r.1 in
      let h = k.entries.held.held.each r.0 (member_at e.held.items i r.0 r.1) in
      let sound_held = h.sound_is ∙ ap (sound s t) r.2 ∙ kept_sound s t (volume_within f v) (starts f v root file_set e links ids k) a own in
      ap (λ (o : Option Selected). map (step_seen e.held.items) (fitted_by o)) x.1 ∙ x.2.of_sound sound_held ∙ ap (λ (b : Addr). map step_of (fitted s t b)) r.2

  -- the target of a fitted link has a number
  pub target_has : (a : Addr) (l : Link) → kept (setting_of f v) (tree_of f v) a ≡ true → Member l (fitted (setting_of f v) (tree_of f v) a) → Member (target_of l.says) (numbered e.kept.items e.held.items)
  target_has a l own m =
      let s = setting_of f v in
      let t = tree_of f v in
      let c = starts f v root file_set e links ids k in
      kept_has f v root file_set e links ids k (target_of l.says)
      (entry_kept f v (target_of l.says) (kept_target s t (volume_within f v) c a (target_of l.says) own (edge_from s t a (target_of l.says) l m refl)) (target_other f v a l c (fitted_gives s t a l m).2))

  module _ (i : ℕ) (a : Addr) (at : at_of e.held.items i ≡ Some a) (own : kept (setting_of f v) (tree_of f v) a ≡ true) (fs : List Fitted) (same : fs ≡ fitted_by (slice_get e.selected.items i)) where
    firsts : option_map (λ x. at_of e.held.items x.to) (first_fitted fs) ≡ option_map (λ l. Some (target_of l.says)) (first_link (fitted (setting_of f v) (tree_of f v) a))
    firsts = steps_first e.held.items fs (fitted (setting_of f v) (tree_of f v) a) (ap (map (step_seen e.held.items)) same ∙ steps_are i a at own)

    pub pointer_none : option_map (λ x. x.to) (first_fitted fs) ≡ None → None ≡ pointed_by f v (Some a)
    unfolding pointed_from
    pointer_none q = by (first_fitted fs) (first_link (fitted (setting_of f v) (tree_of f v) a)) q firsts
      where
        by : (o : Option Fitted) (l : Option Link) → option_map (λ x. x.to) o ≡ None → option_map (λ x. at_of e.held.items x.to) o ≡ option_map (λ l. Some (target_of l.says)) l
            → None ≡ option_map Some (option_map (λ l. target_of l.says) l)
        by None None q r = refl
        by None (Some l) q r = cc
        by (Some x) l q r = cc

    pub pointer_some : (to : ℕ) → option_map (λ x. x.to) (first_fitted fs) ≡ Some to → (number : Addr → Option NodeId) → IsNumbering (numbered e.kept.items e.held.items) number → (r : Option NodeId)
        → ((b : Addr) → at_of e.held.items to ≡ Some b → r ≡ number b) → named_by (numbered e.kept.items e.held.items) r ≡ pointed_by f v (Some a)
    unfolding pointed_from
    pointer_some to q number numbering r h = by (first_fitted fs) (first_link (fitted (setting_of f v) (tree_of f v) a)) refl q firsts
      where
        by_number : (b : Addr) → Member b (numbered e.kept.items e.held.items) → (o : Option NodeId) → number b ≡ o → named_by (numbered e.kept.items e.held.items) o ≡ Some (Some b)
        by_number b m None n = absurd (numbering.all b n m)
        by_number b m (Some x) n = ap Some (numbering.there b x n)

        by : (o : Option Fitted) (l : Option Link) → first_link (fitted (setting_of f v) (tree_of f v) a) ≡ l → option_map (λ x. x.to) o ≡ Some to
            → option_map (λ x. at_of e.held.items x.to) o ≡ option_map (λ l. Some (target_of l.says)) l → named_by (numbered e.kept.items e.held.items) r ≡ option_map Some (option_map (λ l. target_of l.says) l)
        by None l w q p = absurd (no_some to q)
        by (Some x) None w q p = cc
        by (Some x) (Some l) w q p =
            let there : at_of e.held.items to ≡ Some (target_of l.says) = ap (at_of e.held.items) (sym (same_Some x.to to q)) ∙ same_Some (at_of e.held.items x.to) (Some (target_of l.says)) p in
            let m = target_has a l own (first_member (fitted (setting_of f v) (tree_of f v) a) l w) in
            ap (named_by (numbered e.kept.items e.held.items)) (h (target_of l.says) there) ∙ by_number (target_of l.says) m (number (target_of l.says)) refl

  -- ---- the system stream directory
  pub shapeless : (h : Held) → Member h e.held.items → is_holder f v h.at ≡ true → h.shape ≡ None
  shapeless h m q = by h.shape refl (k.entries.held.each_of h m).shape
    where
      by : (o : Option Shape) → h.shape ≡ o → IsShaped f v h.at o → h.shape ≡ None
      by None w x = w
      by (Some y) w x = absurd (false≢true (sym x.0 ∙ q))

  pub holder_kept : is_holder f v f.file_set ≡ true → kept (setting_of f v) (tree_of f v) f.file_set ≡ true
  holder_kept q = kept_start (setting_of f v) (tree_of f v) (volume_within f v) (starts f v root file_set e links ids k) f.file_set (holder_begins f v f.file_set q)

  pub system_none : ((h : Held) → Member h e.held.items → h.shape ≡ None → ⊥) → None ≡ option_map Some (system_from f v)
  unfolding system_from
  system_none none = by (is_holder f v f.file_set) refl
    where
      by : (b : Bool) → is_holder f v f.file_set ≡ b → None ≡ option_map Some (cond b (pointed_from f v f.file_set) None)
      by false q = refl
      by true q =
          let own = kept_found (setting_of f v) (tree_of f v) (volume_within f v) (starts f v root file_set e links ids k) f.file_set (holder_kept q) in
          let r = found_stands (setting_of f v) (tree_of f v) e.held.items k.entries.held.held f.file_set own in
          let m = member_at e.held.items r.0 r.1.entry r.1.there in
          absurd (none r.1.entry m (shapeless r.1.entry m (ap (is_holder f v) r.1.at ∙ q)))

  pub system_some : (i : ℕ) (h : Held) → slice_get e.held.items i ≡ Some h → h.shape ≡ None
      → (at_of e.held.items i ≡ Some f.file_set) × (kept (setting_of f v) (tree_of f v) f.file_set ≡ true) × (pointed_by f v (Some f.file_set) ≡ option_map Some (system_from f v))
  unfolding system_from
  system_some i h there none =
      let holds : is_holder f v h.at ≡ true = subst (IsShaped f v h.at) none (k.entries.held.each_of h (member_at e.held.items i h there)).shape in
      let at = holder_address f v h.at holds in
      let q : is_holder f v f.file_set ≡ true = ap (is_holder f v) (sym at) ∙ holds in
      (ap at_by there ∙ ap Some at, holder_kept q, sym (ap (λ (b : Bool). option_map Some (cond b (pointed_from f v f.file_set) None)) q))

  -- ---- one pointer more
  pub index_kept : (indexes : List ℕ) (j i : ℕ) → map (at_of e.held.items) indexes ≡ map Some (numbered e.kept.items e.held.items) → slice_get indexes j ≡ Some i
      → (a : Addr) × (at_of e.held.items i ≡ Some a) × (kept (setting_of f v) (tree_of f v) a ≡ true)
  index_kept indexes j i same there = by (slice_get (numbered e.kept.items e.held.items) j) refl
    where
      seen : Some (at_of e.held.items i) ≡ option_map Some (slice_get (numbered e.kept.items e.held.items) j)
      seen =
          sym (slice_get-map (at_of e.held.items) indexes j ∙ ap (option_map (at_of e.held.items)) there)
          ∙ ap (λ (xs : List (Option Addr)). slice_get xs j) same
          ∙ slice_get-map Some (numbered e.kept.items e.held.items) j

      by : (o : Option Addr) → slice_get (numbered e.kept.items e.held.items) j ≡ o → (a : Addr) × (at_of e.held.items i ≡ Some a) × (kept (setting_of f v) (tree_of f v) a ≡ true)
      by None q = absurd (no_some (at_of e.held.items i) (sym (seen ∙ ap (option_map Some) q)))
      by (Some a) q = (
        a,
        same_Some (at_of e.held.items i) (Some a) (seen ∙ ap (option_map Some) q),
        (kept_parts f v a (has_kept f v root file_set e links ids k a (member_at (numbered e.kept.items e.held.items) j a q))).0,
      )

-- the same in the loop over the indexes
pub told_more : {X Y Z : Type 0} (F : X → Z) (G : Y → Z) (out new : List X) (ys : List Y) (j : ℕ) (x : X) (y : Y) → j < length ys → y ≡ get_or ys j y → new ≡ out ++ x ∷ [] → F x ≡ G y
    → map F out ≡ map G (take j ys) → map F new ≡ map G (take (j + 1) ys)
told_more F G out new ys j x y l is push e was =
    ap (map F) push
    ∙ map-append F out (x ∷ [])
    ∙ ap (λ zs. zs ++ F x ∷ []) was
    ∙ ap (λ z. map G (take j ys) ++ z ∷ []) e
    ∙ sym (map-append G (take j ys) (y ∷ []))
    ∙ ap (map G) (sym (take_more ys j y l ∙ ap (λ z. take j ys ++ z ∷ []) (sym is)))

-- an entry with a shape is passed over
pub none_more : (hs : List Held) (i : ℕ) (h : Held) → i < length hs → h ≡ get_or hs i h → is_some h.shape ≡ true → ((x : Held) → Member x (take i hs) → x.shape ≡ None → ⊥)
    → (x : Held) → Member x (take (i + 1) hs) → x.shape ≡ None → ⊥
none_more hs i h l is some was x m e =
    by (member_append (take i hs) (h ∷ []) x (subst (λ (xs : List Held). Member x xs) (take_more hs i h l ∙ ap (λ (z : Held). take i hs ++ z ∷ []) (sym is)) m))
  where
    by : Member x (take i hs) ⊎ Member x (h ∷ []) → ⊥
    by (inl n) = was x n e
    by (inr (inl q)) = false≢true (sym (ap (λ (o : Option Shape). is_some o) (ap (λ (z : Held). z.shape) (sym q) ∙ e)) ∙ some)
    by (inr (inr n)) = n

pub none_by : {X : Type 0} (o : Option X) → is_some o ≡ false → o ≡ None
none_by None e = refl
none_by (Some x) e = absurd (false≢true (sym e))
