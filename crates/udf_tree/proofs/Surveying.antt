-- What is told of each node by the index of its found entry.
use Rattle.std.proofs.Common.{◌≡◌, ℕ, zero, suc, List, [], ◌∷◌, map, Bool, true, false, not, ◌&&◌, cond, Option, Some, None, refl, sym, ap, ◌∙◌, subst, inl, inr}
use Rattle.std.specs.Prelude.{is_some, option_map, slice_get}
use Rattle.std.proofs.lemmas.Bool.{false≢true}
use Rattle.std.proofs.lemmas.Option.{same_Some}
use Rattle.udf_field.specs.declared.address.Addr.{Addr}
use Rattle.udf_file_model.specs.Listing.{Volume}
use Rattle.udf_tree_model.specs.Among.{Member}
use Rattle.udf_tree_model.specs.Content.{content_stays, mended_content}
use Rattle.udf_tree_model.specs.Frame.{Frame, is_holder, setting_of, tree_of}
use Rattle.udf_tree_model.specs.Kept.{kept}
use Rattle.udf_tree_model.specs.Node.{node_at}
use Rattle.udf_contents.specs.declared.contents.MendedContent.{MendedContent}
use Rattle.udf_kept.specs.declared.entries.Entries.{Entries}
use Rattle.udf_held.specs.declared.held.Held.{Held}
use Rattle.udf_kept.specs.declared.keeping.Keeping.{Keeping}
use Rattle.udf_tree.specs.declared.node.Node.{Node}
use Rattle.udf_contents.specs.Contents.{AreContents, AreContentsOf, IsContent, IsContentOf}
use Rattle.udf_kept.specs.Entries.{AreEntries}
use Rattle.udf_kept.specs.Fitted.{at_of}
use Rattle.udf_kept.specs.Keeping.{IsKeeping}
use Rattle.udf_tree.specs.Nodes.{AreNodes, IsNode, node_addresses}
use Rattle.udf_tree.specs.Survey.{bytes_at, bytes_by, pointed_by, pointed_from, wanted_content}
use Rattle.udf_tree.proofs.Enrolling.{and_both, is_shaped, kept_parts}
use Rattle.udf_kept.proofs.Indexing.{held_at, member_of_get}
use Rattle.udf_contents.proofs.Mending.{keeping_there}

pub heads : {X : Type 0} (x y : X) (xs ys : List X) → x ∷ xs ≡ y ∷ ys → (x ≡ y) × (xs ≡ ys)
heads x y xs ys e = (cc, cc)

-- what is told by indexes is told by nodes
pub told_by_nodes : {X : Type 0} (F : ℕ → X) (G : Node → X) (hs : List Held) (is : List ℕ) (ns : List Node) → map (at_of hs) is ≡ map Some (node_addresses ns)
    → ((i : ℕ) (n : Node) → Member n ns → at_of hs i ≡ Some n.at → F i ≡ G n) → map F is ≡ map G ns
told_by_nodes F G hs [] [] e h = refl
told_by_nodes F G hs [] (n ∷ ns) e h = cc
told_by_nodes F G hs (i ∷ is) [] e h = cc
told_by_nodes F G hs (i ∷ is) (n ∷ ns) e h =
    let p = heads (at_of hs i) (Some n.at) (map (at_of hs) is) (map Some (node_addresses ns)) e in
    ap (λ x. x ∷ map F is) (h i n (inl refl) p.0) ∙ ap (λ xs. G n ∷ xs) (told_by_nodes F G hs is ns p.1 (λ j m a b. h j m (inr a) b))

content_there : (f : Frame) (v : Volume) (hs : List Held) (ks : List (Option Keeping)) (cs : List (Option MendedContent)) (i : ℕ) (h : Held) → AreContentsOf f v hs ks cs → slice_get hs i ≡ Some h
    → (k : Option Keeping) × (c : Option MendedContent) × (slice_get ks i ≡ Some k) × (slice_get cs i ≡ Some c) × IsContent f v h k c
content_there f v [] ks cs i h a e = cc
content_there f v (x ∷ hs) [] cs i h a e = absurd a
content_there f v (x ∷ hs) (k ∷ ks) [] i h a e = absurd a
content_there f v (x ∷ hs) (k ∷ ks) (c ∷ cs) zero h a e = (k, c, refl, refl, subst (λ (y : Held). IsContent f v y k c) (same_Some x h e) a.0)
content_there f v (x ∷ hs) (k ∷ ks) (c ∷ cs) (suc i) h a e = content_there f v hs ks cs i h a.1 e

-- a node and its found entry
pub record IsFound (f : Frame) (v : Volume) (e : Entries) (i : ℕ) (n : Node) : Type 0 where
  pub entry : Held
  pub there : slice_get e.held.items i ≡ Some entry
  pub at_is : entry.at ≡ n.at
  pub directory_is : n.directory ≡ entry.directory
  pub keeping : Keeping
  pub keeping_is : slice_get e.kept.items i ≡ Some (Some keeping)
  pub shaped : is_some entry.shape ≡ true

keeping_by : (f : Frame) (v : Volume) (hs : List Held) (h : Held) (o : Option Keeping) → kept (setting_of f v) (tree_of f v) h.at ≡ true → IsKeeping (setting_of f v) (tree_of f v) hs h o → (k : Keeping) × (o ≡ Some k)
keeping_by f v hs h None e k = absurd (false≢true (sym k ∙ e))
keeping_by f v hs h (Some y) e k = (y, refl)

module _ (f : Frame) (v : Volume) (e : Entries) (entries : AreEntries f v e) where
  pub found_of : (i : ℕ) (n : Node) (numbers : List Addr) → IsNode f v numbers n → at_of e.held.items i ≡ Some n.at → IsFound f v e i n
  found_of i n numbers node a =
      let r = held_at e.held.items i n.at a in
      let h = r.0 in
      let m = member_of_get e.held.items i h r.1 in
      let p = kept_parts f v n.at node.kept_is in
      let y = keeping_there (setting_of f v) (tree_of f v) e.held.items e.held.items e.kept.items i h entries.kept.each r.1 in
      let z = keeping_by f v e.held.items h y.0 (ap (kept (setting_of f v) (tree_of f v)) r.2 ∙ p.0) y.2 in
      record {
        entry = h;
        there = r.1;
        at_is = r.2;
        directory_is = node.directory_is ∙ sym (ap (λ (b : Addr). (node_at (tree_of f v) b).directory) r.2) ∙ sym (entries.held.held.each h m).directory;
        keeping = z.0;
        keeping_is = y.1 ∙ ap Some z.1;
        shaped = is_shaped f v h.at h.shape (entries.held.each_of h m).shape ∙ ap (λ (b : Addr). not (is_holder f v b)) r.2 ∙ p.1;
      }

  content_is : (n : Node) (h : Held) (k : Keeping) (c : Option MendedContent) → h.at ≡ n.at → n.directory ≡ h.directory → is_some h.shape ≡ true → IsContent f v h (Some k) c → bytes_by (Some c) ≡ wanted_content f v n
  unfolding wanted_content
  content_is n h k c at dir shaped is = by_directory h.directory refl
    where
      wanted : Bool → Bool → Option (List ℕ)
      wanted b stays = cond (b && not stays) (Some (mended_content f v n.at)) None

      by_content : (o : Option MendedContent) → IsContentOf f v h o → bytes_by (Some o) ≡ wanted true (content_stays f v n.at)
      by_content None q = sym (ap (wanted true) (sym (ap (content_stays f v) at) ∙ q))
      by_content (Some m) q = ap Some (q.1 ∙ ap (mended_content f v) at) ∙ sym (ap (wanted true) (sym (ap (content_stays f v) at) ∙ q.0))

      by_directory : (b : Bool) → h.directory ≡ b → bytes_by (Some c) ≡ wanted n.directory (content_stays f v n.at)
      by_directory true d =
          by_content c (is.of_kept (and_both h.directory (is_some h.shape) d shaped)) ∙ ap (λ (b : Bool). wanted b (content_stays f v n.at)) (sym (dir ∙ d))
      by_directory false d =
          ap (λ (o : Option MendedContent). bytes_by (Some o)) (is.of_other (ap (λ (b : Bool). b && is_some h.shape) d)) ∙ ap (λ (b : Bool). wanted b (content_stays f v n.at)) (sym (dir ∙ d))

  pub contents_wanted : (cs : List (Option MendedContent)) → AreContents f v e.held.items e.kept.items cs → (is : List ℕ) (ns : List Node) → AreNodes f v ns → map (at_of e.held.items) is ≡ map Some (node_addresses ns)
      → map (bytes_at cs) is ≡ map (wanted_content f v) ns
  contents_wanted cs a is ns nodes same = told_by_nodes (bytes_at cs) (wanted_content f v) e.held.items is ns same each
    where
      each : (i : ℕ) (n : Node) → Member n ns → at_of e.held.items i ≡ Some n.at → bytes_at cs i ≡ wanted_content f v n
      each i n m b =
          let x = found_of i n (node_addresses ns) (nodes.each n m) b in
          let r = content_there f v e.held.items e.kept.items cs i x.entry a.each x.there in
          let k : r.0 ≡ Some x.keeping = same_Some r.0 (Some x.keeping) (sym r.2 ∙ x.keeping_is) in
          ap bytes_by r.3 ∙ content_is n x.entry x.keeping r.1 x.at_is x.directory_is x.shaped (subst (λ (o : Option Keeping). IsContent f v x.entry o r.1) k r.4)

pub pointers_wanted : (f : Frame) (v : Volume) (e : Entries) (is : List ℕ) (ns : List Node) → map (at_of e.held.items) is ≡ map Some (node_addresses ns)
    → map (λ i. pointed_by f v (at_of e.held.items i)) is ≡ map (λ n. option_map Some (pointed_from f v n.at)) ns
pointers_wanted f v e is ns same = told_by_nodes (λ i. pointed_by f v (at_of e.held.items i)) (λ n. option_map Some (pointed_from f v n.at)) e.held.items is ns same (λ i n m b. ap (pointed_by f v) b)
