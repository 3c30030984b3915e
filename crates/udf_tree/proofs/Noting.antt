-- What is told beside nodes, by the indexes of found entries.
use Rattle.std.proofs.Common.{◌≡◌, ◌<◌, ℕ, List, length, map, true, Option, Some, None, sym, ap, ◌∙◌, subst}
use Rattle.std.specs.Prelude.{All, is_some}
use Rattle.std.proofs.lemmas.List.{length-map}
use Rattle.std.proofs.lemmas.Option.{get_or_from_slice_get}
use Rattle.udf_field.specs.declared.address.Addr.{Addr}
use Rattle.udf_file_model.specs.Listing.{Volume}
use Rattle.udf_tree_model.specs.Among.{Member}
use Rattle.udf_tree_model.specs.Counts.{low_count}
use Rattle.udf_tree_model.specs.Frame.{Frame, stream_of}
use Rattle.udf_dues.specs.declared.counts.Count.{Count}
use Rattle.udf_kept.specs.declared.entries.Entries.{Entries}
use Rattle.udf_held.specs.declared.held.Held.{Held}
use Rattle.udf_tree.specs.declared.node.Node.{Node}
use Rattle.udf_tree.specs.declared.node.NodeId.{NodeId}
use Rattle.udf_tree.specs.declared.notes.Notes.{Notes}
use Rattle.udf_found.specs.declared.shape.Shape.{Shape}
use Rattle.udf_tree.specs.declared.stated.Stated.{Stated}
use Rattle.udf_dues.specs.Counts.{AreCounts, IsCount, count_in, count_of}
use Rattle.udf_kept.specs.Entries.{AreEntries}
use Rattle.udf_kept.specs.Fitted.{at_of}
use Rattle.udf_dues.specs.Marks.{no_count}
use Rattle.udf_tree.specs.Nodes.{AreNodes, IsNumbering, node_addresses}
use Rattle.udf_tree.specs.Notes.{AreAsMany, AreIndexed}
use Rattle.udf_tree.specs.Ordered.{AreInOrder}
use Rattle.udf_found.specs.Shape.{IsShaped}
use Rattle.udf_tree.specs.Stated.{stated_at, stated_by, stated_held, stated_in, stated_shaped}
use Rattle.udf_kept.proofs.Indexing.{member_of_get}
use Rattle.udf_tree.proofs.LinkWants.{count_there}
use Rattle.udf_tree.proofs.Sequencing.{all_within}
use Rattle.udf_tree.proofs.Surveying.{IsFound, found_of, told_by_nodes}

-- ---- what an entry states
abbrev made : ℕ → ℕ → ℕ → Option Addr → Stated
made information links id pointer = record { information = information; links = links; id = id; pointer = pointer }

stated_is : (f : Frame) (v : Volume) (a : Addr) (o : Option Shape) → IsShaped f v a o → is_some o ≡ true → stated_shaped o ≡ stated_at v a
unfolding stated_at
stated_is f v a None s t = cc
stated_is f v a (Some s) (other, e, there, shape) t =
    ap (λ (x : ℕ). made x s.links s.id (stream_of s.stream)) shape.information
    ∙ ap (λ (x : ℕ). made e.information x s.id (stream_of s.stream)) shape.links
    ∙ ap (λ (x : ℕ). made e.information e.links x (stream_of s.stream)) shape.id
    ∙ ap (λ x. made e.information e.links e.id (stream_of x)) shape.stream
    ∙ sym (ap stated_by there)

-- ---- the link counts that it may state
abbrev count_made : ℕ → ℕ → Count
count_made low high = record { low = low; high = high }

count_is : (f : Frame) (v : Volume) (a : Addr) (c : Count) → IsCount f v a c → c ≡ count_of f v a
count_is f v a c k = ap (λ (x : ℕ). count_made x c.high) k.low ∙ ap (count_made (low_count f v a)) k.high

module _ (f : Frame) (v : Volume) (e : Entries) (entries : AreEntries f v e) (is : List ℕ) (ns : List Node) (nodes : AreNodes f v ns) (same : map (at_of e.held.items) is ≡ map Some (node_addresses ns)) where
  found : (i : ℕ) (n : Node) → Member n ns → at_of e.held.items i ≡ Some n.at → IsFound f v e i n
  found i n m b = found_of f v e entries i n (node_addresses ns) (nodes.each n m) b

  pub stated_wanted : map (stated_in e.held.items) is ≡ map (λ n. stated_at v n.at) ns
  stated_wanted = told_by_nodes (stated_in e.held.items) (λ n. stated_at v n.at) e.held.items is ns same each
    where
      each : (i : ℕ) (n : Node) → Member n ns → at_of e.held.items i ≡ Some n.at → stated_in e.held.items i ≡ stated_at v n.at
      each i n m b =
          let x = found i n m b in
          ap stated_held x.there
          ∙ stated_is f v x.entry.at x.entry.shape (entries.held.each_of x.entry (member_of_get e.held.items i x.entry x.there)).shape x.shaped
          ∙ ap (stated_at v) x.at_is

  pub counts_wanted : (cs : List Count) → AreCounts f v e.held.items cs → map (count_in cs) is ≡ map (λ n. count_of f v n.at) ns
  counts_wanted cs counts = told_by_nodes (count_in cs) (λ n. count_of f v n.at) e.held.items is ns same each
    where
      each : (i : ℕ) (n : Node) → Member n ns → at_of e.held.items i ≡ Some n.at → count_in cs i ≡ count_of f v n.at
      each i n m b =
          let x = found i n m b in
          let r = count_there f v e.held.items cs counts.each i x.entry x.there x.shaped in
          get_or_from_slice_get cs i r.0 no_count r.1 ∙ count_is f v x.entry.at r.0 r.2 ∙ ap (count_of f v) x.at_is

-- ---- as many of each
many_each : (m n : ℕ) (x : Notes) → m ≡ n → AreAsMany m x → AreAsMany n x
many_each m n x e h = subst (λ (k : ℕ). AreAsMany k x) e h

pub indexed : (hs : List Held) (ats whole : List Addr) (ns : List Node) (number : Addr → Option NodeId) (is : List ℕ) (order : List NodeId) (x : Notes) → ats ≡ whole → node_addresses ns ≡ whole → IsNumbering ats number → length ats < 4294967296
    → map (at_of hs) is ≡ map Some whole → AreInOrder ats order → (js : List ℕ) → js ≡ is → AreAsMany (length js) x → AreIndexed ns number is order x
indexed hs ats whole ns number is order x e h numbering few same sequence js j many =
    let numbers : List Addr → Type 0 = λ xs. IsNumbering xs number in
    let nodes : length ns ≡ length whole = sym (length-map ns (λ (n : Node). n.at)) ∙ ap (λ (xs : List Addr). length xs) h in
    let one : length is ≡ length whole = sym (length-map is (at_of hs)) ∙ ap (λ (xs : List (Option Addr)). length xs) same ∙ length-map whole Some in
    let all : length ats ≡ length ns = ap (λ (xs : List Addr). length xs) e ∙ sym nodes in
    record {
      numbering = subst numbers (e ∙ sym h) numbering;
      few = subst (λ (n : ℕ). n < 4294967296) all few;
      same = one ∙ sym nodes;
      within = subst (λ (n : ℕ). All (λ (id : NodeId). id.0 < n) order) all (all_within ats order sequence.addresses sequence.named);
      noted = many_each (length js) (length ns) x (ap (λ (xs : List ℕ). length xs) j ∙ one ∙ sym nodes) many;
    }
