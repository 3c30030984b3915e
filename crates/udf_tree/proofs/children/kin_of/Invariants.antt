use Rattle.std.proofs.Common.{◌≡◌, ℕ, List, length, map, take}
use Rattle.udf_field.specs.declared.address.Addr.{Addr}
use Rattle.udf_file_model.specs.Listing.{Volume}
use Rattle.udf_tree_model.specs.Frame.{Frame}
use Rattle.udf_kept.specs.Fitted.{at_of}
use Rattle.udf_tree.specs.Kindred.{child_by, sibling_by}
use Rattle.udf_tree.specs.Nodes.{AreSurveyed, numbered}
use Rattle.udf_tree.specs.Survey.{named_by}
use Rattle.udf_tree.proofs.children.kin_of.Given as goal

abbrev pub invariant-loop-index : goal.invariant-loop-index
invariant-loop-index l = record {
  many : length l.kin.items ≡ l.index-index;
  children : (f : Frame) (v : Volume) (file_set : Addr) (wanted ids : List ℕ) → AreSurveyed f v l.root file_set l.entries wanted ids
      → map (λ k. named_by (numbered l.entries.kept.items l.entries.held.items) k.first_child) l.kin.items ≡ map (λ i. child_by f v (at_of l.entries.held.items i)) (take l.index-index l.indexes);
  siblings : (f : Frame) (v : Volume) (file_set : Addr) (wanted ids : List ℕ) → AreSurveyed f v l.root file_set l.entries wanted ids
      → map (λ k. named_by (numbered l.entries.kept.items l.entries.held.items) k.next_sibling) l.kin.items ≡ map (λ i. sibling_by f v (at_of l.entries.held.items i)) (take l.index-index l.indexes);
}
