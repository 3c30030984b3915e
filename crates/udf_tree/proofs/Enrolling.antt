-- What is told of kept entries as nodes.
use Rattle.std.proofs.Common.{◌≡◌, ◌⊎◌, ℕ, List, [], ◌∷◌, ◌++◌, get_or, Bool, true, false, not, ◌&&◌, ◌||◌, cond, Option, Some, None, refl, sym, ap, ◌∙◌, subst, inl, inr}
use Rattle.std.specs.Prelude.{is_some, slice_get}
use Rattle.std.specs.List.{list_any}
use Rattle.std.proofs.lemmas.Bool.{and_parts, false≢true}
use Rattle.std.proofs.lemmas.List.{map-append}
use Rattle.std.proofs.lemmas.Option.{get_or_from_slice_get, same_Some}
use Rattle.udf_field.specs.declared.address.Addr.{Addr}
use Rattle.udf_file_model.specs.Address.{same_addr}
use Rattle.udf_file_model.specs.Entry.{Entry}
use Rattle.udf_file_model.specs.Listing.{Volume, is_good_for}
use Rattle.udf_tree_model.specs.Among.{Member}
use Rattle.udf_tree_model.specs.Chosen.{Rank}
use Rattle.udf_tree_model.specs.Counts.{wanted_id, wanted_links}
use Rattle.udf_tree_model.specs.Frame.{Frame, entry_at, is_holder, is_start, setting_of, tree_of}
use Rattle.udf_tree_model.specs.Kept.{kept}
use Rattle.udf_tree_model.specs.Laws.{HasSoundStarts}
use Rattle.udf_tree_model.specs.Link.{Link}
use Rattle.udf_tree_model.specs.Node.{Setting, Tree, node_at}
use Rattle.udf_tree_model.specs.Parent.{keeping, keeping_rank, ordinary, parent, parent_by}
use Rattle.udf_tree_model.specs.Refused.{Strategy, ExtendedDescriptors, AttributeFile, RootDirectory, has_root, passes, refusal}
use Rattle.udf_tree_model.specs.Won.{kept_length, sound}
use Rattle.udf_tree_model.specs.Found.{level}
use Rattle.udf_tree_model.proofs.Finding.{volume_within}
use Rattle.udf_tree_model.proofs.Keeping.{kept_found, kept_start}
use Rattle.udf_tree_model.proofs.Members.{any_from, any_gives, member_append, member_map, same_bools}
use Rattle.udf_tree_model.proofs.Parents.{keeping_by}
use Rattle.udf_tree_model.proofs.Places.{address_same, same_address}
use Rattle.udf_tree_model.proofs.Stating.{accepted_starts}
use Rattle.udf_kept.specs.declared.entries.Entries.{Entries}
use Rattle.udf_held.specs.declared.held.Held.{Held}
use Rattle.udf_kept.specs.declared.keeping.Keeping.{Keeping}
use Rattle.udf_tree.specs.declared.node.Node.{Node}
use Rattle.udf_tree.specs.declared.node.NodeId.{NodeId}
use Rattle.udf_found.specs.declared.shape.Shape.{Shape}
use Rattle.udf_found.specs.Beyond.{HoldsFileSet}
use Rattle.udf_held.specs.Held.{IsHeld, IsHeldOf, held_spots}
use Rattle.udf_kept.specs.Keeping.{AreKeptOf, IsKeeping, IsKeptBy}
use Rattle.udf_tree_model.specs.Ordinary.{is_kept_entry}
use Rattle.udf_tree.specs.Nodes.{AreNodes, AreSurveyed, IsNode, IsNumbering, StandOnce, is_numbered, is_whole, is_whole_by, node_address, node_addresses, numbered, numbered_at}
use Rattle.udf_found.specs.Shape.{IsShaped}
use Rattle.udf_found.specs.Spot.{ComeOnce, addresses, spot}
use Rattle.udf_kept.proofs.ByIndex.{found_stands, member_at, test_at}
use Rattle.udf_contents.proofs.Mending.{keeping_there}
use Rattle.udf_found.proofs.Seeing.{file_set_plain, holder_address}

pub and_both : (a b : Bool) → a ≡ true → b ≡ true → (a && b) ≡ true
and_both a b e h = ap (λ (x : Bool). x && b) e ∙ h

-- ---- which addresses have numbers
no_entry : (o : Option Keeping) (h : Held) → o ≡ None → is_numbered h o ≡ true → ⊥
no_entry o h e t = false≢true (sym (ap (is_numbered h) e) ∙ t)

module _ (s : Setting) (t : Tree) (all : List Held) where
  kept_by_keeping : (h : Held) (k : Option Keeping) → is_some k ≡ true → (r : AreKeptOf s t all (h ∷ []) (k ∷ [])) → kept s t h.at ≡ true
  kept_by_keeping h None e r = absurd (false≢true e)
  kept_by_keeping h (Some k) e r = r.0.kept_is

  keeping_of_kept : (h : Held) (k : Option Keeping) → kept s t h.at ≡ true → (r : AreKeptOf s t all (h ∷ []) (k ∷ [])) → is_some k ≡ true
  keeping_of_kept h None e r = absurd (false≢true (sym r.0 ∙ e))
  keeping_of_kept h (Some k) e r = refl

  pub numbered_gives : (hs : List Held) (ks : List (Option Keeping)) (a : Addr) → AreKeptOf s t all hs ks → Member a (numbered ks hs)
      → (h : Held) × Member h hs × (h.at ≡ a) × (kept s t h.at ≡ true) × (is_some h.shape ≡ true)
  numbered_gives [] [] a r m = absurd m
  numbered_gives [] (k ∷ ks) a r m = absurd m
  numbered_gives (h ∷ hs) [] a r m = absurd m
  numbered_gives (h ∷ hs) (k ∷ ks) a r m = by (λ n. let g = numbered_gives hs ks a r.1 n in (g.0, inr g.1, g.2, g.3, g.4)) (is_numbered h k) refl m
    where
      Gives : Type 0
      Gives = (x : Held) × Member x (h ∷ hs) × (x.at ≡ a) × (kept s t x.at ≡ true) × (is_some x.shape ≡ true)

      by : (Member a (numbered ks hs) → Gives) → (b : Bool) → is_numbered h k ≡ b → Member a (cond b (h.at ∷ numbered ks hs) (numbered ks hs)) → Gives
      by next false e n = next n
      by next true e (inl q) = let p = and_parts (is_some k) (is_some h.shape) e in (h, inl refl, sym q, kept_by_keeping h k p.0 (r.0, tt), p.1)
      by next true e (inr n) = next n

  pub numbered_has : (hs : List Held) (ks : List (Option Keeping)) (h : Held) → AreKeptOf s t all hs ks → Member h hs → kept s t h.at ≡ true → is_some h.shape ≡ true → Member h.at (numbered ks hs)
  numbered_has [] ks h r m e f = absurd m
  numbered_has (x ∷ hs) [] h r m e f = absurd r
  numbered_has (x ∷ hs) (k ∷ ks) h r m e f = by (λ n. numbered_has hs ks h r.1 n e f) (is_numbered x k) refl m
    where
      by : (Member h hs → Member h.at (numbered ks hs)) → (b : Bool) → is_numbered x k ≡ b → (h ≡ x) ⊎ Member h hs → Member h.at (cond b (x.at ∷ numbered ks hs) (numbered ks hs))
      by next true q (inl i) = inl (ap (λ (z : Held). z.at) i)
      by next true q (inr n) = inr (next n)
      by next false q (inr n) = next n
      by next false q (inl i) =
          absurd (false≢true (sym q ∙ and_both (is_some k) (is_some x.shape) (keeping_of_kept x k (subst (λ (z : Held). kept s t z.at ≡ true) i e) (r.0, tt)) (subst (λ (z : Held). is_some z.shape ≡ true) i f)))

-- an address that no entry has has no number
or_parts : (a b : Bool) → (a || b) ≡ false → (a ≡ false) × (b ≡ false)
or_parts false b e = (refl, e)
or_parts true b e = absurd (false≢true (sym e))

or_none : (a b : Bool) → a ≡ false → b ≡ false → (a || b) ≡ false
or_none a b e h = ap (λ (x : Bool). x || b) e ∙ h

none_numbered : (a : Addr) (hs : List Held) (ks : List (Option Keeping)) → list_any (same_addr a) (addresses (held_spots hs)) ≡ false → list_any (same_addr a) (numbered ks hs) ≡ false
none_numbered a hs [] e = refl
none_numbered a [] (k ∷ ks) e = refl
none_numbered a (h ∷ hs) (k ∷ ks) e = let p = or_parts (same_addr a h.at) (list_any (same_addr a) (addresses (held_spots hs))) e in by p.0 (none_numbered a hs ks p.1) (is_numbered h k)
  where
    by : same_addr a h.at ≡ false → list_any (same_addr a) (numbered ks hs) ≡ false → (b : Bool) → list_any (same_addr a) (cond b (h.at ∷ numbered ks hs) (numbered ks hs)) ≡ false
    by p next true = or_none (same_addr a h.at) (list_any (same_addr a) (numbered ks hs)) p next
    by p next false = next

numbered_once : (hs : List Held) (ks : List (Option Keeping)) → ComeOnce (held_spots hs) → StandOnce (numbered ks hs)
numbered_once hs [] o = tt
numbered_once [] (k ∷ ks) o = tt
numbered_once (h ∷ hs) (k ∷ ks) o = by (numbered_once hs ks o.1) (is_numbered h k)
  where
    by : StandOnce (numbered ks hs) → (b : Bool) → StandOnce (cond b (h.at ∷ numbered ks hs) (numbered ks hs))
    by next true = (none_numbered h.at hs ks o.0, next)
    by next false = next

pub number_there : (numbers : List Addr) (number : Addr → Option NodeId) (a : Addr) (r : NodeId) → IsNumbering numbers number → Member a numbers → ((n : NodeId) → number a ≡ Some n → r ≡ n) → slice_get numbers r.0 ≡ Some a
number_there numbers number a r n m e = by (number a) refl
  where
    by : (o : Option NodeId) → number a ≡ o → slice_get numbers r.0 ≡ Some a
    by None q = absurd (n.all a q m)
    by (Some x) q = subst (λ (y : NodeId). slice_get numbers y.0 ≡ Some a) (sym (e x q)) (n.there a x q)

-- ---- an accepted volume
root_by : (b c d h : Bool) → cond b (Some Strategy) (cond c (Some ExtendedDescriptors) (cond d (Some AttributeFile) (cond h None (Some RootDirectory)))) ≡ None → h ≡ true
root_by true c d h e = cc
root_by false true d h e = cc
root_by false false true h e = cc
root_by false false false true e = refl
root_by false false false false e = cc

root_stands : (f : Frame) (v : Volume) → refusal f v ≡ None → has_root f v ≡ true
unfolding refusal
root_stands f v e = root_by _ _ _ (has_root f v) e

-- the root is not the file set
root_apart : (f : Frame) (v : Volume) → HoldsFileSet f v → has_root f v ≡ true → is_holder f v f.root ≡ false
unfolding has_root
root_apart f v set r = by (is_holder f v f.root) refl
  where
    by : (b : Bool) → is_holder f v f.root ≡ b → b ≡ false
    by false e = refl
    by true e =
        let none : entry_at v f.root ≡ None = ap (entry_at v) (holder_address f v f.root e) ∙ (file_set_plain f v set).0 in
        absurd (false≢true (sym (ap (λ (o : Option Entry). passes (λ e. true) o && (sound (setting_of f v) (tree_of f v) f.root && (node_at (tree_of f v) f.root).directory)) none) ∙ r))

apart : (f : Frame) (v : Volume) (a : Addr) → same_addr a f.file_set ≡ false → is_holder f v a ≡ false
apart f v a e = by (is_holder f v a) refl
  where
    by : (b : Bool) → is_holder f v a ≡ b → b ≡ false
    by false h = refl
    by true h = absurd (false≢true (sym e ∙ address_same a f.file_set (holder_address f v a h)))

root_begins : (f : Frame) (v : Volume) → (setting_of f v).start f.root ≡ true
unfolding setting_of is_start
root_begins f v = ap (λ (b : Bool). b || (is_some f.system && same_addr f.root f.file_set)) (address_same f.root f.root refl)

pub entry_kept : (f : Frame) (v : Volume) (a : Addr) → kept (setting_of f v) (tree_of f v) a ≡ true → is_holder f v a ≡ false → is_kept_entry f v a ≡ true
unfolding is_kept_entry
entry_kept f v a k h = and_both (kept (setting_of f v) (tree_of f v) a) (not (is_holder f v a)) k (ap not h)

pub kept_parts : (f : Frame) (v : Volume) (a : Addr) → is_kept_entry f v a ≡ true → (kept (setting_of f v) (tree_of f v) a ≡ true) × (not (is_holder f v a) ≡ true)
unfolding is_kept_entry
kept_parts f v a e = and_parts (kept (setting_of f v) (tree_of f v) a) (not (is_holder f v a)) e

rank_holder : (s : Setting) (t : Tree) (d : Addr) (l : Link) → (keeping_rank s t d l).holder ≡ d
unfolding keeping_rank
rank_holder s t d l = refl

pub is_shaped : (f : Frame) (v : Volume) (a : Addr) (o : Option Shape) → IsShaped f v a o → is_some o ≡ not (is_holder f v a)
is_shaped f v a None h = ap not (sym h)
is_shaped f v a (Some x) h = ap not (sym h.0)

module _ (f : Frame) (v : Volume) (root file_set : Addr) (e : Entries) (links ids : List ℕ) (k : AreSurveyed f v root file_set e links ids) where
  pub starts : HasSoundStarts (setting_of f v) (tree_of f v)
  starts = accepted_starts f v k.accepted k.placed

  pub root_kept : is_kept_entry f v f.root ≡ true
  root_kept = entry_kept f v f.root (kept_start (setting_of f v) (tree_of f v) (volume_within f v) starts f.root (root_begins f v)) (root_apart f v k.set (root_stands f v k.accepted))

  -- the parent of a kept entry is one
  parent_kept : (a : Addr) → is_kept_entry f v (parent f v a) ≡ true
  unfolding parent
  parent_kept a = by_root (same_addr a f.root)
    where
      by_set : (d : Addr) (b : Bool) → same_addr d f.file_set ≡ b → kept (setting_of f v) (tree_of f v) d ≡ true → is_kept_entry f v (cond b f.root d) ≡ true
      by_set d true q h = root_kept
      by_set d false q h = entry_kept f v d h (apart f v d q)

      by_link : (o : Option Rank) → keeping (setting_of f v) (tree_of f v) a ≡ o → is_kept_entry f v (parent_by f o) ≡ true
      by_link None q = root_kept
      by_link (Some x) q =
          let g = keeping_by (setting_of f v) (tree_of f v) a x q in
          let holder : x.holder ≡ g.0 = ap (λ (r : Rank). r.holder) g.3 ∙ rank_holder (setting_of f v) (tree_of f v) g.0 g.1 in
          by_set x.holder (same_addr x.holder f.file_set) refl (ap (kept (setting_of f v) (tree_of f v)) holder ∙ g.2.holder)

      by_root : (b : Bool) → is_kept_entry f v (cond b f.root (parent_by f (keeping (setting_of f v) (tree_of f v) a))) ≡ true
      by_root true = root_kept
      by_root false = by_link (keeping (setting_of f v) (tree_of f v) a) refl

  -- the kept entries are those with numbers
  pub kept_has : (a : Addr) → is_kept_entry f v a ≡ true → Member a (numbered e.kept.items e.held.items)
  kept_has a h =
      let p = kept_parts f v a h in
      let r = found_stands (setting_of f v) (tree_of f v) e.held.items k.entries.held.held a (kept_found (setting_of f v) (tree_of f v) (volume_within f v) starts a p.0) in
      let x = r.1 in
      let m = member_at e.held.items r.0 x.entry x.there in
      subst (λ (b : Addr). Member b (numbered e.kept.items e.held.items)) x.at
      (numbered_has (setting_of f v) (tree_of f v) e.held.items e.held.items e.kept.items x.entry k.entries.kept.each m (ap (kept (setting_of f v) (tree_of f v)) x.at ∙ p.0)
      (is_shaped f v x.entry.at x.entry.shape (k.entries.held.each_of x.entry m).shape ∙ ap (λ (b : Addr). not (is_holder f v b)) x.at ∙ p.1))

  pub has_kept : (a : Addr) → Member a (numbered e.kept.items e.held.items) → is_kept_entry f v a ≡ true
  unfolding is_kept_entry
  has_kept a m =
      let r = numbered_gives (setting_of f v) (tree_of f v) e.held.items e.held.items e.kept.items a k.entries.kept.each m in
      subst (λ (b : Addr). is_kept_entry f v b ≡ true) r.2
      (and_both (kept (setting_of f v) (tree_of f v) r.0.at) (not (is_holder f v r.0.at)) r.3 (sym (is_shaped f v r.0.at r.0.shape (k.entries.held.each_of r.0 r.1).shape) ∙ r.4))

  numbered_kept : (a : Addr) → list_any (same_addr a) (numbered e.kept.items e.held.items) ≡ is_kept_entry f v a
  numbered_kept a = same_bools (list_any (same_addr a) (numbered e.kept.items e.held.items)) (is_kept_entry f v a)
      (λ h. let r = any_gives (same_addr a) (numbered e.kept.items e.held.items) h in has_kept a (subst (λ (b : Addr). Member b (numbered e.kept.items e.held.items)) (sym (same_address a r.0 r.2)) r.1))
      (λ h. any_from (same_addr a) (numbered e.kept.items e.held.items) a (kept_has a h) (address_same a a refl))

  -- a node for each
  pub nodes_are : (ns : List Node) → node_addresses ns ≡ numbered e.kept.items e.held.items → ((n : Node) → Member n ns → IsNode f v (numbered e.kept.items e.held.items) n) → AreNodes f v ns
  nodes_are ns h each = record {
    each = λ n m. subst (λ (numbers : List Addr). IsNode f v numbers n) (sym h) (each n m);
    all = λ a. ap (list_any (same_addr a)) h ∙ numbered_kept a;
    once = subst StandOnce (sym h) (numbered_once e.held.items e.kept.items k.entries.held.held.listed.once);
  }

  whole_is : (h : Held) (x : Shape) → h.shape ≡ Some x → IsHeld (setting_of f v) (tree_of f v) h → IsHeldOf f v h → (x.good && h.whole) ≡ is_whole f v h.at
  unfolding is_whole
  whole_is h x q held of =
      let w = subst (IsShaped f v h.at) q of.shape in
      ap (λ (b : Bool). b && h.whole) w.3.good
      ∙ ap (λ (b : Bool). is_good_for v h.at w.1 && b) held.whole
      ∙ sym (ap (is_whole_by f v h.at) w.2)

  -- the node of a held entry
  module _ (i : ℕ) (h : Held) (x : Shape) (y : Keeping) (there : slice_get e.held.items i ≡ Some h) (shape : h.shape ≡ Some x) (keeping_is : get_or e.kept.items i None ≡ Some y) where
    has_number : is_numbered h (get_or e.kept.items i None) ≡ true
    has_number = and_both (is_some (get_or e.kept.items i None)) (is_some h.shape) (ap (λ (o : Option Keeping). is_some o) keeping_is) (ap (λ (o : Option Shape). is_some o) shape)

    pub kept_by : IsKeptBy (setting_of f v) (tree_of f v) e.held.items h y
    kept_by =
        let r = keeping_there (setting_of f v) (tree_of f v) e.held.items e.held.items e.kept.items i h k.entries.kept.each there in
        subst (IsKeeping (setting_of f v) (tree_of f v) e.held.items h) (sym (get_or_from_slice_get e.kept.items i r.0 None r.1) ∙ keeping_is) r.2

    pub node_is : (number : Addr → Option NodeId) → IsNumbering (numbered e.kept.items e.held.items) number → (parent_at : Addr) → parent_at ≡ parent f v h.at
        → (n : Node) → n.at ≡ h.at → n.level ≡ h.level → n.directory ≡ h.directory → n.kept_length ≡ h.kept → n.whole ≡ (x.good && h.whole) → n.links ≡ get_or links i 0 → n.id ≡ get_or ids i 0
        → ((m : NodeId) → number parent_at ≡ Some m → n.parent ≡ m) → n.ordinary ≡ get_or e.ordinary.items i false → IsNode f v (numbered e.kept.items e.held.items) n
    node_is number numbering parent_at above n at lev dir len wh li id par or =
        let hs = e.held.items in
        let m = member_at hs i h there in
        let held : IsHeld (setting_of f v) (tree_of f v) h = k.entries.held.held.each h m in
        let of : IsHeldOf f v h = k.entries.held.each_of h m in
        let spots = k.entries.held.held.listed.each (spot h.at h.level) (member_map (λ (z : Held). spot z.at z.level) hs h m) in
        let own : is_kept_entry f v h.at ≡ true = entry_kept f v h.at kept_by.kept_is (subst (IsShaped f v h.at) shape of.shape).0 in
        record {
          kept_is = ap (is_kept_entry f v) at ∙ own;
          level_is = lev ∙ spots.1 ∙ sym (ap (level (setting_of f v) (tree_of f v)) at);
          directory_is = dir ∙ held.directory ∙ sym (ap (λ (a : Addr). (node_at (tree_of f v) a).directory) at);
          kept_length_is = len ∙ held.kept_is ∙ sym (ap (kept_length (setting_of f v) (tree_of f v)) at);
          whole_is = wh ∙ whole_is h x shape held of ∙ sym (ap (is_whole f v) at);
          links_are = li ∙ k.links_are.each i h there has_number ∙ sym (ap (wanted_links f v) at);
          id_is = id ∙ k.ids_are.each i h there has_number ∙ sym (ap (wanted_id f v) at);
          parent_is =
              number_there (numbered e.kept.items hs) number parent_at n.parent numbering (subst (λ (a : Addr). Member a (numbered e.kept.items hs)) (sym above) (kept_has (parent f v h.at) (parent_kept h.at))) par
              ∙ ap Some (above ∙ sym (ap (parent f v) at));
          ordinary_is = or ∙ ap (λ (bs : List Bool). get_or bs i false) k.entries.ordinary_are ∙ test_at (λ z. ordinary f v z.at) hs i h there ∙ sym (ap (ordinary f v) at);
        }

-- ---- the loop over the entries
node_member : (ns new : List Node) (m n : Node) → new ≡ ns ++ m ∷ [] → Member n new → Member n ns ⊎ (n ≡ m)
node_member ns new m n e h = by (member_append ns (m ∷ []) n (subst (λ (xs : List Node). Member n xs) e h))
  where
    by : Member n ns ⊎ Member n (m ∷ []) → Member n ns ⊎ (n ≡ m)
    by (inl x) = inl x
    by (inr (inl x)) = inr x
    by (inr (inr x)) = absurd x

pub put_addresses : (ns new : List Node) (m : Node) (a : Addr) → new ≡ ns ++ m ∷ [] → m.at ≡ a → node_addresses new ≡ node_addresses ns ++ a ∷ []
put_addresses ns new m a e h = ap node_addresses e ∙ map-append (λ (n : Node). n.at) ns (m ∷ []) ∙ ap (λ (b : Addr). node_addresses ns ++ b ∷ []) h

pub put_each : (P : Node → Type 0) (ns new : List Node) (m : Node) → new ≡ ns ++ m ∷ [] → P m → ((n : Node) → Member n ns → P n) → (n : Node) → Member n new → P n
put_each P ns new m e p was n h = by (node_member ns new m n e h)
  where
    by : Member n ns ⊎ (n ≡ m) → P n
    by (inl x) = was n x
    by (inr x) = subst P (sym x) p

-- an entry with a node is to have a number, and one without is not
pub numbered_some : (h : Held) (k : Option Keeping) (o : Option Node) (n : Node) → o ≡ Some n → node_address o ≡ numbered_at h k → (is_numbered h k ≡ true) × (n.at ≡ h.at)
numbered_some h k o n e a = by (is_numbered h k) refl (sym (ap node_address e) ∙ a)
  where
    by : (b : Bool) → is_numbered h k ≡ b → Some n.at ≡ cond b (Some h.at) None → (is_numbered h k ≡ true) × (n.at ≡ h.at)
    by true q r = (q, same_Some n.at h.at r)
    by false q r = cc

pub numbered_none : (h : Held) (k : Option Keeping) (o : Option Node) → o ≡ None → node_address o ≡ numbered_at h k → is_numbered h k ≡ false
numbered_none h k o e a = by (is_numbered h k) refl (sym (ap node_address e) ∙ a)
  where
    by : (b : Bool) → is_numbered h k ≡ b → None ≡ cond b (Some h.at) None → is_numbered h k ≡ false
    by true q r = cc
    by false q r = q

no_place : (numbers : List Addr) (a : Addr) → (Member a numbers → ⊥) → list_any (same_addr a) numbers ≡ false
no_place numbers a h = by (list_any (same_addr a) numbers) refl
  where
    by : (b : Bool) → list_any (same_addr a) numbers ≡ b → b ≡ false
    by false e = refl
    by true e = let r = any_gives (same_addr a) numbers e in absurd (h (subst (λ (b : Addr). Member b numbers) (sym (same_address a r.0 r.2)) r.1))

pub number_none : (numbers : List Addr) (number : Addr → Option NodeId) (a : Addr) → IsNumbering numbers number → number a ≡ None → list_any (same_addr a) numbers ≡ false
number_none numbers number a n e = no_place numbers a (n.all a e)

pub root_there : (f : Frame) (v : Volume) (root file_set : Addr) (e : Entries) (links ids : List ℕ) → AreSurveyed f v root file_set e links ids → (number : Addr → Option NodeId) → IsNumbering (numbered e.kept.items e.held.items) number
    → (r : NodeId) → ((n : NodeId) → number root ≡ Some n → r ≡ n) → (ns : List Node) → node_addresses ns ≡ numbered e.kept.items e.held.items → slice_get (node_addresses ns) r.0 ≡ Some f.root
root_there f v root file_set e links ids k number numbering r h ns same =
    let m = kept_has f v root file_set e links ids k f.root (root_kept f v root file_set e links ids k) in
    ap (λ (numbers : List Addr). slice_get numbers r.0) same
    ∙ number_there (numbered e.kept.items e.held.items) number f.root r numbering m (λ n q. h n (ap number (sym k.root_is) ∙ q))
