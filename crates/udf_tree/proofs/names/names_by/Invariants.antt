use Rattle.std.proofs.Common.{◌≡◌, ℕ, List, length, take}
use Rattle.udf_field.specs.declared.address.Addr.{Addr}
use Rattle.udf_file_model.specs.Listing.{Volume}
use Rattle.udf_tree_model.specs.Frame.{Frame}
use Rattle.udf_tree.specs.Nodes.{AreSurveyed}
use Rattle.udf_tree.specs.Path.{AreNamed, HaveIndexes, texts_of}
use Rattle.udf_tree.proofs.names.names_by.Given as goal

abbrev pub invariant-loop-index : goal.invariant-loop-index
invariant-loop-index l = record {
  many : length l.names.items ≡ l.index-index;
  told : (f : Frame) (v : Volume) (root file_set : Addr) (links ids : List ℕ) → AreSurveyed f v root file_set l.entries links ids → HaveIndexes l.entries.held.items l.link_indexes → AreNamed f v l.entries.held.items (take l.index-index l.indexes) (texts_of l.names.items);
}
