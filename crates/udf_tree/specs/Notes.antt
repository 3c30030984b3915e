-- What is told of kept entries beside their nodes.
use Rattle.std.specs.Prelude.{◌≡◌, ◌<◌, ◌^◌, ℕ, All, List, Option, length, map}
use Rattle.udf_field.specs.declared.address.Addr.{Addr}
use Rattle.udf_file_model.specs.Listing.{Volume}
use Rattle.udf_tree_model.specs.Frame.{Frame}
use Rattle.udf_dues.specs.declared.counts.Count.{Count}
use Rattle.udf_kept.specs.declared.entries.Entries.{Entries}
use Rattle.udf_tree.specs.declared.node.Node.{Node}
use Rattle.udf_tree.specs.declared.node.NodeId.{NodeId}
use Rattle.udf_tree.specs.declared.notes.Notes.{Notes}
use Rattle.udf_dues.specs.Counts.{count_in}
use Rattle.udf_kept.specs.Fitted.{at_of}
use Rattle.udf_tree.specs.KeptContents.{AreKeptContents}
use Rattle.udf_tree.specs.Kindred.{child_by, sibling_by}
use Rattle.udf_tree.specs.Judged.{AreJudged, entries_of}
use Rattle.udf_tree.specs.Nodes.{IsNumbering, node_addresses, numbered}
use Rattle.udf_tree.specs.Path.{AreNamed, texts_of}
use Rattle.udf_tree.specs.Stated.{stated_in}
use Rattle.udf_tree.specs.Survey.{named_by, pointed_by}

-- so many of each
pub record AreAsMany (n : ℕ) (x : Notes) : Type 0 where
  pub pointers_many : length x.pointers.items ≡ n
  pub verdicts_many : length x.verdicts.items ≡ n
  pub names_many : length x.names.items ≡ n
  pub stated_many : length x.stated.items ≡ n
  pub counts_many : length x.counts.items ≡ n
  pub contents_many : length x.contents.items ≡ n
  pub kin_many : length x.kin.items ≡ n

-- they are of the found entries at these indexes, in order, where all found entries have these counts
pub record AreNotes (f : Frame) (v : Volume) (e : Entries) (cs : List Count) (is : List ℕ) (x : Notes) : Type 0 where
  pub pointers_are : map (named_by (numbered e.kept.items e.held.items)) x.pointers.items ≡ map (λ i. pointed_by f v (at_of e.held.items i)) is
  pub verdicts_are : AreJudged f v e.held.items is (entries_of x.verdicts.items)
  pub names_are : AreNamed f v e.held.items is (texts_of x.names.items)
  pub stated_are : x.stated.items ≡ map (stated_in e.held.items) is
  pub counts_are : x.counts.items ≡ map (count_in cs) is
  pub contents_are : AreKeptContents f v e.held.items is x.contents.items
  pub children_are : map (λ k. named_by (numbered e.kept.items e.held.items) k.first_child) x.kin.items ≡ map (λ i. child_by f v (at_of e.held.items i)) is
  pub siblings_are : map (λ k. named_by (numbered e.kept.items e.held.items) k.next_sibling) x.kin.items ≡ map (λ i. sibling_by f v (at_of e.held.items i)) is

-- the numbers of nodes; of each the index of its found entry, and the notes; and numbers of nodes in another order
pub record AreIndexed (nodes : List Node) (number : Addr → Option NodeId) (indexes : List ℕ) (order : List NodeId) (x : Notes) : Type 0 where
  pub numbering : IsNumbering (node_addresses nodes) number
  pub few : length nodes < 2 ^ 32
  pub same : length indexes ≡ length nodes
  pub within : All (λ id. id.0 < length nodes) order
  pub noted : AreAsMany (length nodes) x
