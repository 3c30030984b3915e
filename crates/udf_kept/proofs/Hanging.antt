-- Parents of kept entries, and stream directories, told by the links that keep entries.
use Rattle.std.proofs.Common.{◌≡◌, ℕ, List, Bool, true, false, cond, ◌&&◌, nat_eq, Option, Some, None, sym, ap, ◌∙◌, subst}
use Rattle.std.specs.Prelude.{◌==◌, slice_get}
use Rattle.std.proofs.lemmas.Option.{same_Some}
use Rattle.udf_field.specs.declared.address.Addr.{Addr}
use Rattle.udf_file_model.specs.Address.{same_addr}
use Rattle.udf_file_model.specs.Listing.{Volume}
use Rattle.udf_tree_model.specs.Chosen.{Rank, chosen, chosen_link}
use Rattle.udf_tree_model.specs.Frame.{Frame, setting_of, tree_of}
use Rattle.udf_tree_model.specs.Kept.{kept}
use Rattle.udf_tree_model.specs.Node.{Setting, Tree, node_at}
use Rattle.udf_tree_model.specs.Parent.{is_pointer_rank, is_stream_directory, keeping, parent, parent_by}
use Rattle.udf_kept.specs.declared.fitted.Choice.{Choice}
use Rattle.udf_held.specs.declared.held.Held.{Held}
use Rattle.udf_kept.specs.Fitted.{IsChoice, at_by, at_of}
use Rattle.udf_kept.specs.Selects.{is_rank_at}

-- ---- the link of a choice
pub link_none : (hs : List Held) (level : Held → ℕ) (rank : Option Rank) (choice : Option Choice) (d : Addr) (place : ℕ) → choice ≡ None → IsChoice hs level rank choice → false ≡ is_rank_at d place rank
link_none hs level rank choice d place e h = sym (ap (is_rank_at d place) (subst (IsChoice hs level rank) e h))

holder_is : (hs : List Held) (i : ℕ) (h : Held) → slice_get hs i ≡ Some h → at_of hs i ≡ Some h.at
holder_is hs i h e = ap at_by e

pub link_missing : (hs : List Held) (level : Held → ℕ) (rank : Option Rank) (choice : Option Choice) (c : Choice) (P : Type 0) → choice ≡ Some c → at_of hs c.holder ≡ None → IsChoice hs level rank choice → P
link_missing hs level rank choice c P e n h =
    let x = subst (IsChoice hs level rank) e h in
    let t : Some x.0.at ≡ None = sym (holder_is hs c.holder x.0 x.1) ∙ n in
    absurd cc

pub link_there : (hs : List Held) (level : Held → ℕ) (rank : Option Rank) (choice : Option Choice) (c : Choice) (at d : Addr) (place : ℕ) → choice ≡ Some c → at_of hs c.holder ≡ Some at → IsChoice hs level rank choice
    → (same_addr at d && nat_eq c.place place) ≡ is_rank_at d place rank
link_there hs level rank choice c at d place e n h =
    let x = subst (IsChoice hs level rank) e h in
    let same : x.0.at ≡ at = same_Some x.0.at at (sym (holder_is hs c.holder x.0 x.1) ∙ n) in
    ap (λ a. same_addr a d && nat_eq c.place place) (sym same) ∙ sym (ap (is_rank_at d place) x.2)

-- ---- the parent
module _ (f : Frame) (v : Volume) (a root : Addr) (r : f.root ≡ root) where
  pub at_root : same_addr a root ≡ true → root ≡ parent f v a
  unfolding parent
  at_root e = sym r ∙ sym (ap (λ (b : Bool). cond b f.root (parent_by f (keeping (setting_of f v) (tree_of f v) a))) (ap (same_addr a) r ∙ e))

  away : same_addr a root ≡ false → parent_by f (keeping (setting_of f v) (tree_of f v) a) ≡ parent f v a
  unfolding parent
  away e = sym (ap (λ (b : Bool). cond b f.root (parent_by f (keeping (setting_of f v) (tree_of f v) a))) (ap (same_addr a) r ∙ e))

  module _ (hs : List Held) (level : Held → ℕ) (by : Option Choice) (h : IsChoice hs level (keeping (setting_of f v) (tree_of f v) a) by) (e : same_addr a root ≡ false) where
    pub by_none : by ≡ None → root ≡ parent f v a
    by_none n = sym r ∙ sym (ap (parent_by f) (subst (IsChoice hs level (keeping (setting_of f v) (tree_of f v) a)) n h)) ∙ away e

    by_there : (c : Choice) (at : Addr) → by ≡ Some c → at_of hs c.holder ≡ Some at → cond (same_addr at f.file_set) f.root at ≡ parent f v a
    by_there c at s n =
        let x = subst (IsChoice hs level (keeping (setting_of f v) (tree_of f v) a)) s h in
        let same : x.0.at ≡ at = same_Some x.0.at at (sym (holder_is hs c.holder x.0 x.1) ∙ n) in
        ap (λ (b : Addr). cond (same_addr b f.file_set) f.root b) (sym same)
        ∙ sym (ap (parent_by f) x.2)
        ∙ away e

    pub by_file_set : (file_set : Addr) (c : Choice) (at : Addr) → f.file_set ≡ file_set → by ≡ Some c → at_of hs c.holder ≡ Some at → same_addr at file_set ≡ true → root ≡ parent f v a
    by_file_set file_set c at g s n t = sym r ∙ sym (ap (λ (b : Bool). cond b f.root at) (ap (same_addr at) g ∙ t)) ∙ by_there c at s n

    pub by_holder : (file_set : Addr) (c : Choice) (at : Addr) → f.file_set ≡ file_set → by ≡ Some c → at_of hs c.holder ≡ Some at → same_addr at file_set ≡ false → at ≡ parent f v a
    by_holder file_set c at g s n t = sym (ap (λ (b : Bool). cond b f.root at) (ap (same_addr at) g ∙ t)) ∙ by_there c at s n

-- ---- the chosen link of what is no start
pub link_is : (s : Setting) (t : Tree) (a : Addr) → s.start a ≡ false → chosen_link s t a ≡ chosen s t a
unfolding chosen_link
link_is s t a h = ap (λ (b : Bool). cond b None (chosen s t a)) h

pub start_unlinked : (s : Setting) (t : Tree) (a : Addr) → s.start a ≡ true → chosen_link s t a ≡ None
unfolding chosen_link
start_unlinked s t a h = ap (λ (b : Bool). cond b None (chosen s t a)) h

-- ---- stream directories
pub not_stream : (s : Setting) (t : Tree) (a : Addr) (b : Bool) → b ≡ false → kept s t a ≡ true → b ≡ (node_at t a).directory → false ≡ is_stream_directory s t a
unfolding is_stream_directory
not_stream s t a b e k d =
    sym (ap (λ x. x && ((node_at t a).directory && is_pointer_rank (chosen_link s t a))) k ∙ ap (λ x. x && is_pointer_rank (chosen_link s t a)) (sym d ∙ e))

pub stream_is : (s : Setting) (t : Tree) (a : Addr) (b : Bool) → b ≡ true → kept s t a ≡ true → b ≡ (node_at t a).directory → is_pointer_rank (chosen_link s t a) ≡ is_stream_directory s t a
unfolding is_stream_directory
stream_is s t a b e k d =
    sym (ap (λ x. x && ((node_at t a).directory && is_pointer_rank (chosen_link s t a))) k ∙ ap (λ x. x && is_pointer_rank (chosen_link s t a)) (sym d ∙ e))

pub pointer_none : (hs : List Held) (level : Held → ℕ) (rank : Option Rank) (choice : Option Choice) → choice ≡ None → IsChoice hs level rank choice → false ≡ is_pointer_rank rank
pointer_none hs level rank choice e h = sym (ap is_pointer_rank (subst (IsChoice hs level rank) e h))

pub pointer_some : (hs : List Held) (level : Held → ℕ) (rank : Option Rank) (choice : Option Choice) (c : Choice) → choice ≡ Some c → IsChoice hs level rank choice → (c.place == 0) ≡ is_pointer_rank rank
pointer_some hs level rank choice c e h = let x = subst (IsChoice hs level rank) e h in sym (ap is_pointer_rank x.2)
