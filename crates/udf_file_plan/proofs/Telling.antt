-- What a survey tells of a kept entry of a repairable volume.
use Rattle.std.proofs.Common.{◌≡◌, ℕ, Bool, true, false, not, cond, ◌&&◌, ◌||◌, ◌+◌, List, [], ◌∷◌, map, Option, Some, None, refl, sym, ap, ◌∙◌}
use Rattle.std.specs.Prelude.{MatchOption, get_or, is_some, min, nat_le, option_map, slice_get}
use Rattle.std.specs.List.{list_all}
use Rattle.std.specs.Borrow.{Bor}
use Rattle.std.proofs.lemmas.Option.{get_or_from_slice_get, slice_get-map}
use Rattle.udf_field.specs.declared.address.Addr.{Addr}
use Rattle.udf_file_model.specs.Entry.{Entry, is_directory}
use Rattle.udf_file_model.specs.Listing as listing
use Rattle.udf_file_model.specs.Listing.{Volume, is_good_for}
use Rattle.udf_tree_model.specs.Claimed.{allocation_holds, list_stays}
use Rattle.udf_tree_model.specs.Content.{content_stays, mended_content}
use Rattle.udf_tree_model.specs.Frame.{Frame, entry_at, node_with, setting_of, stream_of, tree_of}
use Rattle.udf_tree_model.specs.Node as tree
use Rattle.udf_tree_model.specs.Node.{Item, bytes_of, node_at}
use Rattle.udf_tree_model.specs.Ordinary.{is_kept_entry}
use Rattle.udf_tree_model.specs.Won.{bytes_before, holds, kept_length}
use Rattle.udf_tree_model.proofs.Stating.{length_is}
use Rattle.udf_tree.specs.declared.node.Node.{Node}
use Rattle.udf_tree.specs.declared.node.NodeId.{NodeId}
use Rattle.udf_tree.specs.declared.stated.Stated.{Stated}
use Rattle.udf_tree.specs.Nodes.{IsNode, is_whole, is_whole_by, node_addresses}
use Rattle.udf_tree.specs.Stated.{stated_at, stated_by}
use Rattle.udf_tree.specs.Survey.{IsSurvey, View, named_by, pointed_from, wanted_content}
use Rattle.udf_kept.proofs.ByIndex.{member_at}
use Rattle.udf_file_mends.specs.Repairable.{IsRepairable}
use Rattle.udf_file_mends.specs.Wanted.{loses_pointer}
use Rattle.udf_file_mends.proofs.Held as held
use Rattle.udf_file_plan.specs.Node.{stays_by}
use Rattle.udf_file_plan.proofs.Pointing.{loses_told}

same_some : {A : Type 0} (x y : A) → Some x ≡ Some y → x ≡ y
same_some x y e = cc

pub same_header : (h k : ℕ) (o : Option ℕ) → Some h ≡ o → o ≡ Some k → h ≡ k
same_header h k o e f = same_some h k (e ∙ f)

-- where nothing fails all bytes stand before the first that does
whole_bytes : (p : Item → Bool) (is : List Item) → list_all p is ≡ true → bytes_before p is ≡ bytes_of is
unfolding bytes_before
whole_bytes p [] h = refl
whole_bytes p (i ∷ is) h = by (p i) h (whole_bytes p is)
  where
    by : (b : Bool) → (b && list_all p is) ≡ true → (list_all p is ≡ true → bytes_before p is ≡ bytes_of is) → cond b (i.bytes + bytes_before p is) 0 ≡ i.bytes + bytes_of is
    by true h k = ap (λ n. i.bytes + n) (k h)
    by false h k = absurd (cc)

-- of a list by the nodes what stands at the number of a node
noted : {A : Type 0} (g : Node → A) (ns : List Node) (xs : List A) (id : NodeId) (n : Node) → xs ≡ map g ns → slice_get ns id.0 ≡ Some n → slice_get xs id.0 ≡ Some (g n)
noted g ns xs id n e h = ap (λ (l : List _). slice_get l id.0) e ∙ slice_get-map g ns id.0 ∙ ap (option_map g) h

pub matched : (r : Option (Bor (List ℕ))) (o : Option (List ℕ)) → MatchOption r (o ≡ None) (λ b. o ≡ Some b.now) → option_map (λ c. c.now) r ≡ o
matched None o h = sym h
matched (Some b) o h = sym h

module _ (f : Frame) (v : Volume) (x : View) (told : IsSurvey f v x) (id : NodeId) (n : Node) (there : slice_get x.nodes id.0 ≡ Some n) where
  pub node_is : IsNode f v (node_addresses x.nodes) n
  node_is = told.nodes_are.each n (member_at x.nodes id.0 n there)

  pub address_is : (a : Addr) → slice_get (node_addresses x.nodes) id.0 ≡ Some a → n.at ≡ a
  address_is a h = same_some n.at a (sym (slice_get-map (λ (m : Node). m.at) x.nodes id.0 ∙ ap (option_map (λ (m : Node). m.at)) there) ∙ h)

  pub stated_is : (s : Stated) → slice_get x.stated id.0 ≡ Some s → s ≡ stated_at v n.at
  stated_is s h = same_some s (stated_at v n.at) (sym h ∙ noted (λ m. stated_at v m.at) x.nodes x.stated id n told.stated_are there)

  pub mended_is : get_or x.contents id.0 None ≡ wanted_content f v n
  mended_is = get_or_from_slice_get x.contents id.0 (wanted_content f v n) None (noted (wanted_content f v) x.nodes x.contents id n told.contents_are there)

  pub pointer_is : (p : Option NodeId) → slice_get x.pointers id.0 ≡ Some p → is_some p ≡ is_some (pointed_from f v n.at)
  pointer_is p h =
      by p (pointed_from f v n.at)
      (same_some (named_by (node_addresses x.nodes) p) (option_map Some (pointed_from f v n.at))
      (sym (slice_get-map (named_by (node_addresses x.nodes)) x.pointers id.0 ∙ ap (option_map (named_by (node_addresses x.nodes))) h)
      ∙ ap (λ (l : List _). slice_get l id.0) told.pointers_are ∙ slice_get-map (λ (m : Node). option_map Some (pointed_from f v m.at)) x.nodes id.0
      ∙ ap (option_map (λ (m : Node). option_map Some (pointed_from f v m.at))) there))
    where
      by : (p : Option NodeId) (o : Option Addr) → named_by (node_addresses x.nodes) p ≡ option_map Some o → is_some p ≡ is_some o
      by None None e = refl
      by None (Some a) e = cc
      by (Some i) None e = cc
      by (Some i) (Some a) e = refl

  pub pointer_told : is_some (get_or x.pointers id.0 None) ≡ is_some (pointed_from f v n.at)
  pointer_told = by (slice_get x.pointers id.0) refl
    where
      all : option_map (named_by (node_addresses x.nodes)) (slice_get x.pointers id.0) ≡ Some (option_map Some (pointed_from f v n.at))
      all =
          sym (slice_get-map (named_by (node_addresses x.nodes)) x.pointers id.0) ∙ ap (λ (l : List _). slice_get l id.0) told.pointers_are
          ∙ slice_get-map (λ (m : Node). option_map Some (pointed_from f v m.at)) x.nodes id.0 ∙ ap (option_map (λ (m : Node). option_map Some (pointed_from f v m.at))) there

      no : None ≡ Some (option_map Some (pointed_from f v n.at)) → ⊥
      no e = cc

      by : (o : Option (Option NodeId)) → slice_get x.pointers id.0 ≡ o → is_some (get_or x.pointers id.0 None) ≡ is_some (pointed_from f v n.at)
      by None e = absurd (no (sym (ap (option_map (named_by (node_addresses x.nodes))) e) ∙ all))
      by (Some p) e = ap is_some (get_or_from_slice_get x.pointers id.0 p None e) ∙ pointer_is p e

  module _ (ok : IsRepairable f v) (e : Entry) (reads : entry_at v n.at ≡ Some e) where
    abbrev kept : is_kept_entry f v n.at ≡ true
    kept = node_is.kept_is

    pub directory_is : n.directory ≡ is_directory e
    unfolding node_with
    directory_is = node_is.directory_is ∙ ap (λ (m : tree.Node). m.directory) (held.node f v ok n.at e kept reads)

    kept_all : list_all (holds (setting_of f v) (tree_of f v) n.at) (node_at (tree_of f v) n.at).list ≡ true
        → kept_length (setting_of f v) (tree_of f v) n.at ≡ listing.good_length v n.at e
    unfolding kept_length tree.good_length
    kept_all h =
        whole_bytes (holds (setting_of f v) (tree_of f v) n.at) (node_at (tree_of f v) n.at).list h
        ∙ length_is f v n.at e reads (held.other f v ok n.at e kept reads) (held.some f v ok n.at e kept reads)

    same_stays : (g w y : Bool) (information whole good : ℕ) → (w ≡ true → whole ≡ good) → ((g && w) && (nat_le information whole && y)) ≡ ((g && (w && nat_le information good)) && y)
    same_stays true true y information whole good h = ap (λ k. nat_le information k && y) (h refl)
    same_stays true false y information whole good h = refl
    same_stays false w y information whole good h = refl

    content_test : (d c : Bool) (m : List ℕ) → not (is_some (cond (d && not c) (Some m) None)) ≡ (not d || c)
    content_test true true m = refl
    content_test true false m = refl
    content_test false c m = refl

    pub stays_is : (s : Stated) (m : Option (List ℕ)) → s ≡ stated_at v n.at → m ≡ wanted_content f v n → stays_by n s m ≡ list_stays f v n.at e
    unfolding list_stays allocation_holds is_whole stated_at wanted_content
    stays_is s m at is =
        let w = list_all (holds (setting_of f v) (tree_of f v) n.at) (node_at (tree_of f v) n.at).list in
        let information : s.information ≡ e.information = ap (λ (z : Stated). z.information) (at ∙ ap stated_by reads) in
        ap (λ b. b && (nat_le s.information n.kept_length && not (is_some m))) (node_is.whole_is ∙ ap (is_whole_by f v n.at) reads)
        ∙ ap (λ k. (is_good_for v n.at e && w) && (nat_le k n.kept_length && not (is_some m))) information
        ∙ ap (λ k. (is_good_for v n.at e && w) && (nat_le e.information k && not (is_some m))) node_is.kept_length_is
        ∙ ap (λ o. (is_good_for v n.at e && w) && (nat_le e.information (kept_length (setting_of f v) (tree_of f v) n.at) && not (is_some o))) is
        ∙ ap (λ b. (is_good_for v n.at e && w) && (nat_le e.information (kept_length (setting_of f v) (tree_of f v) n.at) && b)) (content_test n.directory (content_stays f v n.at) (mended_content f v n.at))
        ∙ same_stays (is_good_for v n.at e) w (not n.directory || content_stays f v n.at) e.information (kept_length (setting_of f v) (tree_of f v) n.at) (listing.good_length v n.at e) kept_all
        ∙ ap (λ d. (is_good_for v n.at e && (w && nat_le e.information (listing.good_length v n.at e))) && (not d || content_stays f v n.at)) directory_is

    pub clear_is : (s : Stated) (p : Option NodeId) → s ≡ stated_at v n.at → p ≡ get_or x.pointers id.0 None → (is_some s.pointer && not (is_some p)) ≡ loses_pointer f v n.at
    unfolding stated_at
    clear_is s p at is =
        ap (λ (z : Stated). is_some z.pointer && not (is_some p)) (at ∙ ap stated_by reads)
        ∙ ap (λ b. is_some (stream_of e.stream) && not b) (ap is_some is ∙ pointer_told)
        ∙ loses_told f v ok n.at e kept reads

    pub least_is : (s : Stated) (least : ℕ) → s ≡ stated_at v n.at → least ≡ min s.information n.kept_length → least ≡ min e.information (kept_length (setting_of f v) (tree_of f v) n.at)
    unfolding stated_at
    least_is s least at is =
        is ∙ ap (λ (z : Stated). min z.information n.kept_length) (at ∙ ap stated_by reads) ∙ ap (min e.information) node_is.kept_length_is
