-- What the code finds of a survey is what is found of the volume.
use Rattle.std.proofs.Common.{◌≡◌, ◌<◌, ℕ, Bool, true, false, not, cond, ◌&&◌, List, [], ◌∷◌, ◌++◌, map, Option, Some, None, refl, sym, ap, ◌∙◌, subst}
use Rattle.std.specs.Prelude.{◌||◌, ◌+◌, ◌==◌, min, nat_le, option_map, slice_get}
use Rattle.std.specs.List.{flat_map, list_all}
use Rattle.std.proofs.lemmas.Option.{slice_get-map}
use Rattle.udf_field.specs.declared.address.Addr.{Addr}
use Rattle.udf_file_model.specs.Entry.{Entry}
use Rattle.udf_file_model.specs.Listing as listing
use Rattle.udf_file_model.specs.Listing.{Volume, is_good_for}
use Rattle.udf_tree_model.specs.Among.{Member}
use Rattle.udf_tree_model.specs.Claimed.{allocation_holds}
use Rattle.udf_tree_model.specs.Counts.{high_count, low_count, wanted_links}
use Rattle.udf_tree_model.specs.Frame.{Frame, entry_at, is_holder, setting_of, tree_of}
use Rattle.udf_tree_model.specs.Laws.{HasSoundStarts}
use Rattle.udf_tree_model.specs.Node as tree
use Rattle.udf_tree_model.specs.Node.{Item, bytes_of, node_at}
use Rattle.udf_tree_model.specs.Ordinary.{kept_entries}
use Rattle.udf_tree_model.specs.Won.{bytes_before, holds, kept_length}
use Rattle.udf_tree_model.proofs.Stating.{length_is}
use Rattle.udf_volume_model.specs.Rules as model
use Rattle.udf_rules.specs.Findings.{finding_of}
use Rattle.udf_rules.specs.declared.finding.Finding.{Finding}
use Rattle.udf_rules_model.specs.FileRules.{allocation_by, allocation_findings, count_findings, counts_by, links_by}
use Rattle.udf_rules_model.specs.Found.{found_at, unless}
use Rattle.udf_dues.specs.declared.counts.Count.{Count}
use Rattle.udf_tree.specs.declared.node.Node.{Node}
use Rattle.udf_tree.specs.declared.node.NodeId.{NodeId}
use Rattle.udf_tree.specs.declared.stated.Stated.{Stated}
use Rattle.udf_dues.specs.Counts.{count_of as count_there}
use Rattle.udf_tree.specs.Nodes.{IsNode, is_whole, is_whole_by, node_addresses}
use Rattle.udf_tree.specs.Stated.{stated_at, stated_by}
use Rattle.udf_tree.specs.Survey.{IsSurvey, View}
use Rattle.udf_kept.proofs.ByIndex.{member_at}
use Rattle.udf_file_rules.specs.Seen as seen
use Rattle.udf_file_rules.proofs.Along.{along}
use Rattle.udf_file_rules.proofs.Entry.{entry_there}

-- where nothing fails all bytes stand before the first that does
whole_bytes : (p : Item → Bool) (is : List Item) → list_all p is ≡ true → bytes_before p is ≡ bytes_of is
unfolding bytes_before
whole_bytes p [] h = refl
whole_bytes p (i ∷ is) h = by (p i) h (whole_bytes p is)
  where
    by : (b : Bool) → (b && list_all p is) ≡ true → (list_all p is ≡ true → bytes_before p is ≡ bytes_of is) → cond b (i.bytes + bytes_before p is) 0 ≡ i.bytes + bytes_of is
    by true h k = ap (λ n. i.bytes + n) (k h)
    by false h k = absurd (cc)

-- one finding unless something holds
pub mapped : (b : Bool) (m : model.Finding) → cond b [] (finding_of m ∷ []) ≡ map finding_of (unless b m)
mapped true m = refl
mapped false m = refl

-- of a list by the nodes what stands at the number of a node
pub noted : {A : Type 0} (g : Node → A) (ns : List Node) (xs : List A) (id : NodeId) (n : Node) → xs ≡ map g ns → slice_get ns id.0 ≡ Some n → slice_get xs id.0 ≡ Some (g n)
noted g ns xs id n e h = ap (λ (l : List _). slice_get l id.0) e ∙ slice_get-map g ns id.0 ∙ ap (option_map g) h

module _ (f : Frame) (v : Volume) (x : View) (some : 0 < v.size) (starts : HasSoundStarts (setting_of f v) (tree_of f v)) (told : IsSurvey f v x) where
  pub node_there : (id : NodeId) (n : Node) → slice_get x.nodes id.0 ≡ Some n → IsNode f v (node_addresses x.nodes) n
  node_there id n h = told.nodes_are.each n (member_at x.nodes id.0 n h)

  pub stated_there : (id : NodeId) (n : Node) → slice_get x.nodes id.0 ≡ Some n → slice_get x.stated id.0 ≡ Some (stated_at v n.at)
  stated_there id n h = noted (λ n. stated_at v n.at) x.nodes x.stated id n told.stated_are h

  -- the length of a list that is won whole
  kept_all : (a : Addr) (e : Entry) → entry_at v a ≡ Some e → is_holder f v a ≡ false → list_all (holds (setting_of f v) (tree_of f v) a) (node_at (tree_of f v) a).list ≡ true
      → kept_length (setting_of f v) (tree_of f v) a ≡ listing.good_length v a e
  unfolding kept_length tree.good_length
  kept_all a e there other h = whole_bytes (holds (setting_of f v) (tree_of f v) a) (node_at (tree_of f v) a).list h ∙ length_is f v a e there other some

  same_allocation : (g w : Bool) (information kept good : ℕ) → (w ≡ true → kept ≡ good) → (g && (w && nat_le information good)) ≡ ((g && w) && nat_le information kept)
  same_allocation true true information kept good h = ap (nat_le information) (sym (h refl))
  same_allocation true false information kept good h = refl
  same_allocation false w information kept good h = refl

  allocation_same : (id : NodeId) (n : Node) → slice_get x.nodes id.0 ≡ Some n → seen.allocation_at x id ≡ map finding_of (allocation_by f v n.at (entry_at v n.at))
  unfolding seen.allocation_of allocation_holds is_whole stated_at
  allocation_same id n h =
      let is = node_there id n h in
      let t = entry_there f v starts n.at is.kept_is in
      ap (λ (o : Option Node). seen.allocation_by o (slice_get x.stated id.0)) h
      ∙ ap (λ (o : Option Stated). seen.allocation_by (Some n) o) (stated_there id n h)
      ∙ by t.1.0 t.1.1 t.0 is
      ∙ ap (λ (o : Option Entry). map finding_of (allocation_by f v n.at o)) (sym t.1.1)
    where
      by : (e : Entry) → entry_at v n.at ≡ Some e → is_holder f v n.at ≡ false → IsNode f v (node_addresses x.nodes) n
          → seen.allocation_of n (stated_at v n.at) ≡ map finding_of (allocation_by f v n.at (Some e))
      by e there other is =
          let s = setting_of f v in
          let t = tree_of f v in
          let w = list_all (holds s t n.at) (node_at t n.at).list in
          let whole : n.whole ≡ (is_good_for v n.at e && w) = is.whole_is ∙ ap (is_whole_by f v n.at) there in
          ap (λ (o : Option Entry). cond (n.whole && nat_le (stated_by o).information n.kept_length) [] (seen.seen_at 7 n.at (stated_by o).information (min (stated_by o).information n.kept_length) ∷ [])) there
          ∙ ap (λ (k : ℕ). cond (n.whole && nat_le e.information k) [] (seen.seen_at 7 n.at e.information (min e.information k) ∷ [])) is.kept_length_is
          ∙ ap (λ (b : Bool). cond (b && nat_le e.information (kept_length s t n.at)) [] (seen.seen_at 7 n.at e.information (min e.information (kept_length s t n.at)) ∷ [])) whole
          ∙ ap (λ (b : Bool). cond b [] (seen.seen_at 7 n.at e.information (min e.information (kept_length s t n.at)) ∷ []))
          (sym (same_allocation (is_good_for v n.at e) w e.information (kept_length s t n.at) (listing.good_length v n.at e) (λ h. kept_all n.at e there other h)))
          ∙ mapped (is_good_for v n.at e && (w && nat_le e.information (listing.good_length v n.at e))) (found_at 7 n.at e.information (min e.information (kept_length s t n.at)))

  pub allocation_told : seen.allocation_along x ≡ map finding_of (allocation_findings f v)
  unfolding seen.allocation_along allocation_findings
  allocation_told = along x.nodes (seen.allocation_at x) (λ a. allocation_by f v a (entry_at v a)) allocation_same x.order (kept_entries f v) told.order_is

  count_same : (id : NodeId) (n : Node) → slice_get x.nodes id.0 ≡ Some n
      → seen.count_at x id ≡ map finding_of (unless (counts_by f v n.at (entry_at v n.at)) (found_at 10 n.at (links_by (entry_at v n.at)) (wanted_links f v n.at)))
  unfolding seen.count_of stated_at
  count_same id n h =
      let is = node_there id n h in
      let t = entry_there f v starts n.at is.kept_is in
      ap (λ (o : Option Node). seen.count_by o (slice_get x.stated id.0) (slice_get x.counts id.0)) h
      ∙ ap (λ (o : Option Stated). seen.count_by (Some n) o (slice_get x.counts id.0)) (stated_there id n h)
      ∙ ap (λ (o : Option Count). seen.count_by (Some n) (Some (stated_at v n.at)) o) (noted (λ n. count_there f v n.at) x.nodes x.counts id n told.counts_are h)
      ∙ by t.1.0 t.1.1 is
      ∙ ap (λ (o : Option Entry). map finding_of (unless (counts_by f v n.at o) (found_at 10 n.at (links_by o) (wanted_links f v n.at)))) (sym t.1.1)
    where
      by : (e : Entry) → entry_at v n.at ≡ Some e → IsNode f v (node_addresses x.nodes) n
          → seen.count_of n (stated_at v n.at) (count_there f v n.at) ≡ map finding_of (unless (counts_by f v n.at (Some e)) (found_at 10 n.at e.links (wanted_links f v n.at)))
      by e there is =
          let low = low_count f v n.at in
          let high = high_count f v n.at in
          ap (λ (o : Option Entry). cond (nat_le low (stated_by o).links && nat_le (stated_by o).links high) [] (seen.seen_at 10 n.at (stated_by o).links n.links ∷ [])) there
          ∙ ap (λ (k : ℕ). cond (nat_le low e.links && nat_le e.links high) [] (seen.seen_at 10 n.at e.links k ∷ [])) is.links_are
          ∙ mapped (nat_le low e.links && nat_le e.links high) (found_at 10 n.at e.links (wanted_links f v n.at))

  pub counts_told : seen.counts_along x ≡ map finding_of (count_findings f v)
  unfolding seen.counts_along count_findings
  counts_told =
      along x.nodes (seen.count_at x) (λ a. unless (counts_by f v a (entry_at v a)) (found_at 10 a (links_by (entry_at v a)) (wanted_links f v a)))
      count_same x.order (kept_entries f v) told.order_is
