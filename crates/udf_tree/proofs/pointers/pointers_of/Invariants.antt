use Rattle.std.proofs.Common.{◌≡◌, ℕ, List, length, map, take}
use Rattle.udf_field.specs.declared.address.Addr.{Addr}
use Rattle.udf_file_model.specs.Listing.{Volume}
use Rattle.udf_tree_model.specs.Frame.{Frame}
use Rattle.udf_kept.specs.Fitted.{at_of}
use Rattle.udf_tree.specs.Nodes.{AreSurveyed, numbered}
use Rattle.udf_tree.specs.Survey.{named_by, pointed_by}
use Rattle.udf_tree.proofs.pointers.pointers_of.Given as goal

abbrev pub invariant-loop-index : goal.invariant-loop-index
invariant-loop-index l = record {
  many : length l.pointers.items ≡ l.index-index;
  told : (f : Frame) (v : Volume) (root file_set : Addr) (links ids : List ℕ) → AreSurveyed f v root file_set l.entries links ids
      → map (named_by (numbered l.entries.kept.items l.entries.held.items)) l.pointers.items ≡ map (λ i. pointed_by f v (at_of l.entries.held.items i)) (take l.index-index l.indexes);
}
