-- The last child of the root, and the link from which the next sibling of a kept entry is sought.
use Rattle.std.proofs.Common.{◌≡◌, ℕ, List, [], ◌∷◌, ◌++◌, map, get_or, Bool, true, false, ◌&&◌, cond, Option, Some, None, refl, sym, ap, ◌∙◌, subst}
use Rattle.std.specs.Prelude.{option_map, slice_get}
use Rattle.std.proofs.lemmas.Bool.{false≢true}
use Rattle.std.proofs.lemmas.Option.{get_or_from_slice_get}
use Rattle.udf_field.specs.declared.address.Addr.{Addr}
use Rattle.udf_file_model.specs.Address.{same_addr}
use Rattle.udf_file_model.specs.Listing.{Volume}
use Rattle.udf_tree_model.specs.Among.{Member}
use Rattle.udf_tree_model.specs.Children.{children, first_child, first_in, kept_in, kept_under, last_children, next_sibling}
use Rattle.udf_tree_model.specs.Chosen.{Rank, fitted}
use Rattle.udf_tree_model.specs.Frame.{Frame, entry_at, is_holder, setting_of, tree_of}
use Rattle.udf_tree_model.specs.Kept.{depth, kept}
use Rattle.udf_tree_model.specs.Link.{Link}
use Rattle.udf_tree_model.specs.Laws.{KeepsBy}
use Rattle.udf_tree_model.specs.Node.{Setting, Tree}
use Rattle.udf_tree_model.specs.Parent.{keeping, keeping_rank}
use Rattle.udf_tree_model.proofs.Finding.{volume_within}
use Rattle.udf_tree_model.proofs.Keeping.{kept_found}
use Rattle.udf_tree_model.proofs.NextSiblings.{last_of, last_root, next_none, next_some}
use Rattle.udf_tree_model.proofs.Parents.{keeping_by}
use Rattle.udf_tree_model.proofs.Places.{same_address}
use Rattle.udf_tree_model.proofs.Siblings.{beyond}
use Rattle.udf_kept.specs.declared.entries.Entries.{Entries}
use Rattle.udf_kept.specs.declared.fitted.Choice.{Choice}
use Rattle.udf_held.specs.declared.held.Held.{Held}
use Rattle.udf_kept.specs.declared.keeping.Keeping.{Keeping}
use Rattle.udf_tree.specs.declared.node.Node.{Node}
use Rattle.udf_tree.specs.declared.node.NodeId.{NodeId}
use Rattle.udf_found.specs.declared.shape.Shape.{Shape}
use Rattle.udf_kept.specs.Fitted.{IsChoice, at_by, at_of}
use Rattle.udf_kept.specs.Keeping.{IsKeeping}
use Rattle.udf_tree.specs.Kindred.{child_by, is_root_by, sibling_by}
use Rattle.udf_tree.specs.Nodes.{AreSurveyed, node_addresses}
use Rattle.udf_found.specs.Shape.{IsShaped}
use Rattle.udf_tree.specs.Survey.{named_by}
use Rattle.udf_kept.proofs.ByIndex.{found_stands, member_at}
use Rattle.udf_tree.proofs.Enrolling.{starts}
use Rattle.udf_kept.proofs.Indexing.{held_at}
use Rattle.udf_contents.proofs.Mending.{keeping_there}
use Rattle.udf_found.proofs.Seeing.{file_set_plain, holder_address}
use Rattle.udf_tree.proofs.Streaming.{holder_kept, shapeless, system_some}
use Rattle.udf_tree.proofs.Surveying.{told_by_nodes}

-- ---- the first of some children, or else of others
pub found_first : (numbers xs ys : List Addr) → (id : NodeId) → named_by numbers (Some id) ≡ option_map Some (first_in xs) → named_by numbers (Some id) ≡ option_map Some (first_in (xs ++ ys))
found_first numbers [] ys id q = cc
found_first numbers (x ∷ xs) ys id q = q

pub found_last : (numbers xs ys : List Addr) → (o : Option NodeId) → None ≡ option_map Some (first_in xs) → named_by numbers o ≡ option_map Some (first_in ys) → named_by numbers o ≡ option_map Some (first_in (xs ++ ys))
found_last numbers [] ys o q r = r
found_last numbers (x ∷ xs) ys o q r = cc

no_some : {X : Type 0} (x : X) → None ≡ Some x → ⊥
no_some x e = cc

rank_holder : (s : Setting) (t : Tree) (d : Addr) (l : Link) (x : Rank) → x ≡ keeping_rank s t d l → x.holder ≡ d
unfolding keeping_rank
rank_holder s t d l x p = ap (λ (r : Rank). r.holder) p

module _ (f : Frame) (v : Volume) (root file_set : Addr) (e : Entries) (links ids : List ℕ) (k : AreSurveyed f v root file_set e links ids) where
  -- the file set is no entry
  plain : is_holder f v f.file_set ≡ false → kept (setting_of f v) (tree_of f v) f.file_set ≡ false
  plain q = by (kept (setting_of f v) (tree_of f v) f.file_set) refl
    where
      shaped : (a : Addr) → a ≡ f.file_set → (o : Option Shape) → IsShaped f v a o → ⊥
      shaped a i None x = false≢true (sym q ∙ ap (is_holder f v) (sym i) ∙ x)
      shaped a i (Some y) (other, entry, there, shape) = no_some entry (sym (file_set_plain f v k.set).0 ∙ ap (entry_at v) (sym i) ∙ there)

      by : (b : Bool) → kept (setting_of f v) (tree_of f v) f.file_set ≡ b → b ≡ false
      by false own = refl
      by true own =
          let own_found = kept_found (setting_of f v) (tree_of f v) (volume_within f v) (starts f v root file_set e links ids k) f.file_set own in
          let r = found_stands (setting_of f v) (tree_of f v) e.held.items k.entries.held.held f.file_set own_found in
          absurd (shaped r.1.entry.at r.1.at r.1.entry.shape (k.entries.held.each_of r.1.entry (member_at e.held.items r.0 r.1.entry r.1.there)).shape)

  -- ---- the last child of the root
  pub last_none : ((h : Held) → Member h e.held.items → h.shape ≡ None → ⊥) → None ≡ option_map Some (first_in (last_children f v f.root))
  unfolding last_children
  last_none none = by (is_holder f v f.file_set) refl (same_addr f.root f.root)
    where
      by : (b : Bool) → is_holder f v f.file_set ≡ b → (c : Bool) → None ≡ option_map Some (first_in (cond (c && b) (kept_under (setting_of f v) (tree_of f v) f.file_set) []))
      by b q false = refl
      by false q true = refl
      by true q true =
          let own = kept_found (setting_of f v) (tree_of f v) (volume_within f v) (starts f v root file_set e links ids k) f.file_set (holder_kept f v root file_set e links ids k q) in
          let r = found_stands (setting_of f v) (tree_of f v) e.held.items k.entries.held.held f.file_set own in
          let m = member_at e.held.items r.0 r.1.entry r.1.there in
          absurd (none r.1.entry m (shapeless f v root file_set e links ids k r.1.entry m (ap (is_holder f v) r.1.at ∙ q)))

  pub last_some : (i : ℕ) (h : Held) → slice_get e.held.items i ≡ Some h → h.shape ≡ None
      → (at_of e.held.items i ≡ Some f.file_set) × (kept (setting_of f v) (tree_of f v) f.file_set ≡ true) × (kept_in (setting_of f v) (tree_of f v) f.file_set (fitted (setting_of f v) (tree_of f v) f.file_set) ≡ last_children f v f.root)
  unfolding kept_under
  last_some i h there none =
      let r = system_some f v root file_set e links ids k i h there none in
      let holds : is_holder f v h.at ≡ true = subst (IsShaped f v h.at) none (k.entries.held.each_of h (member_at e.held.items i h there)).shape in
      (r.0, r.1, sym (last_root f v (ap (is_holder f v) (sym (holder_address f v h.at holds)) ∙ holds)))

  -- the root alone has it
  pub at_root : (i : ℕ) (d : Addr) → at_of e.held.items i ≡ Some d → is_root_by root (at_of e.held.items i) ≡ true → last_children f v f.root ≡ last_children f v d
  at_root i d at q = ap (last_children f v) (k.root_is ∙ sym (same_address d root (sym (ap (is_root_by root) at) ∙ q)))

  pub off_root : (i : ℕ) (d : Addr) → at_of e.held.items i ≡ Some d → is_root_by root (at_of e.held.items i) ≡ false → last_children f v d ≡ []
  off_root i d at q = last_of f v d (ap (same_addr d) k.root_is ∙ sym (ap (is_root_by root) at) ∙ q)

  -- ---- the link that keeps an entry
  pub record HasLink (a : Addr) (c : Choice) : Type 0 where
    pub holder : Addr
    pub at_is : at_of e.held.items c.holder ≡ Some holder
    pub own : kept (setting_of f v) (tree_of f v) holder ≡ true
    pub next_is : next_sibling f v a ≡ first_in (kept_in (setting_of f v) (tree_of f v) holder (beyond c.place (fitted (setting_of f v) (tree_of f v) holder)) ++ last_children f v holder)

  module _ (i : ℕ) (a : Addr) (at : at_of e.held.items i ≡ Some a) (own : kept (setting_of f v) (tree_of f v) a ≡ true) where
    kept_as : (h : Held) × (h.at ≡ a) × IsKeeping (setting_of f v) (tree_of f v) e.held.items h (get_or e.kept.items i None)
    kept_as =
        let r = held_at e.held.items i a at in
        let y = keeping_there (setting_of f v) (tree_of f v) e.held.items e.held.items e.kept.items i r.0 k.entries.kept.each r.1 in
        (r.0, r.2, subst (IsKeeping (setting_of f v) (tree_of f v) e.held.items r.0) (sym (get_or_from_slice_get e.kept.items i y.0 None y.1)) y.2)

    pub is_kept : get_or e.kept.items i None ≡ None → ⊥
    is_kept q = false≢true (sym (subst (IsKeeping (setting_of f v) (tree_of f v) e.held.items kept_as.0) q kept_as.2) ∙ ap (kept (setting_of f v) (tree_of f v)) kept_as.1 ∙ own)

    choice_of : (w : Keeping) → get_or e.kept.items i None ≡ Some w → IsChoice e.held.items (λ h. depth (setting_of f v) (tree_of f v) h.at) (keeping (setting_of f v) (tree_of f v) a) w.by
    choice_of w q =
        subst (λ (b : Addr). IsChoice e.held.items (λ h. depth (setting_of f v) (tree_of f v) h.at) (keeping (setting_of f v) (tree_of f v) b) w.by) kept_as.1
        (subst (IsKeeping (setting_of f v) (tree_of f v) e.held.items kept_as.0) q kept_as.2).by

    pub sibling_none : (w : Keeping) → get_or e.kept.items i None ≡ Some w → w.by ≡ None → None ≡ sibling_by f v (Some a)
    sibling_none w q n =
        ap (option_map Some)
        (sym (next_none f v a (subst (IsChoice e.held.items (λ h. depth (setting_of f v) (tree_of f v) h.at) (keeping (setting_of f v) (tree_of f v) a)) n (choice_of w q))))

    pub sibling_some : (w : Keeping) (c : Choice) → get_or e.kept.items i None ≡ Some w → w.by ≡ Some c → HasLink a c
    sibling_some w c q n = go (subst (IsChoice e.held.items (λ h. depth (setting_of f v) (tree_of f v) h.at) (keeping (setting_of f v) (tree_of f v) a)) n (choice_of w q))
      where
        go : (h : Held) × (slice_get e.held.items c.holder ≡ Some h) × (keeping (setting_of f v) (tree_of f v) a ≡ Some (record { level = depth (setting_of f v) (tree_of f v) h.at; holder = h.at; place = c.place })) → HasLink a c
        go (h, there, kept_by) = record {
          holder = h.at;
          at_is = ap at_by there;
          own = held_by (keeping_by (setting_of f v) (tree_of f v) a _ kept_by);
          next_is = next_some f v (starts f v root file_set e links ids k) plain a _ kept_by;
        }
          where
            held_by : (d : Addr) × (l : Link) × KeepsBy (setting_of f v) (tree_of f v) a d l × (record { level = depth (setting_of f v) (tree_of f v) h.at; holder = h.at; place = c.place } ≡ keeping_rank (setting_of f v) (tree_of f v) d l)
                → kept (setting_of f v) (tree_of f v) h.at ≡ true
            held_by (d, l, x, p) = ap (kept (setting_of f v) (tree_of f v)) (rank_holder (setting_of f v) (tree_of f v) d l _ p) ∙ x.holder

pub child_is : (f : Frame) (v : Volume) (a : Addr) → option_map Some (first_in (kept_in (setting_of f v) (tree_of f v) a (fitted (setting_of f v) (tree_of f v) a) ++ last_children f v a)) ≡ option_map Some (first_child f v a)
unfolding first_child children kept_under
child_is f v a = refl

pub children_wanted : (f : Frame) (v : Volume) (e : Entries) (is : List ℕ) (ns : List Node) → map (at_of e.held.items) is ≡ map Some (node_addresses ns)
    → map (λ i. child_by f v (at_of e.held.items i)) is ≡ map (λ n. option_map Some (first_child f v n.at)) ns
children_wanted f v e is ns same = told_by_nodes (λ i. child_by f v (at_of e.held.items i)) (λ n. option_map Some (first_child f v n.at)) e.held.items is ns same (λ i n m b. ap (child_by f v) b)

pub siblings_wanted : (f : Frame) (v : Volume) (e : Entries) (is : List ℕ) (ns : List Node) → map (at_of e.held.items) is ≡ map Some (node_addresses ns)
    → map (λ i. sibling_by f v (at_of e.held.items i)) is ≡ map (λ n. option_map Some (next_sibling f v n.at)) ns
siblings_wanted f v e is ns same = told_by_nodes (λ i. sibling_by f v (at_of e.held.items i)) (λ n. option_map Some (next_sibling f v n.at)) e.held.items is ns same (λ i n m b. ap (sibling_by f v) b)
