use Rattle.std.proofs.Common.{◌≡◌, ◌<◌, ℕ, List, length, take}
use Rattle.udf_file_model.specs.Listing.{Volume}
use Rattle.udf_tree_model.specs.Frame.{Frame}
use Rattle.udf_tree.specs.KeptContents.{AreKeptContents}
use Rattle.udf_tree.specs.Nodes.{AreSurveyed}
use Rattle.udf_tree.proofs.kept_contents.contents_at.Given as goal

abbrev pub invariant-loop-index : goal.invariant-loop-index
invariant-loop-index l = record {
  many : length l.contents.items ≡ l.index-index;
  told : (f : Frame) (v : Volume) (links ids : List ℕ) → 0 < v.size → AreSurveyed f v l.root l.file_set l.entries links ids → AreKeptContents f v l.entries.held.items (take l.index-index l.indexes) l.contents.items;
}
