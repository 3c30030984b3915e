use Rattle.std.proofs.Common.{◌≡◌, ℕ, List, length, take}
use Rattle.udf_field.specs.declared.address.Addr.{Addr}
use Rattle.udf_file_model.specs.Listing.{Volume}
use Rattle.udf_tree_model.specs.Frame.{Frame}
use Rattle.udf_tree.specs.Judged.{AreJudged, entries_of}
use Rattle.udf_tree.specs.Nodes.{AreSurveyed}
use Rattle.udf_tree.proofs.judge.verdicts_by.Given as goal

abbrev pub invariant-loop-index : goal.invariant-loop-index
invariant-loop-index l = record {
  many : length l.verdicts.items ≡ l.index-index;
  told : (f : Frame) (v : Volume) (root file_set : Addr) (links ids : List ℕ) → AreSurveyed f v root file_set l.entries links ids → AreJudged f v l.entries.held.items (take l.index-index l.indexes) (entries_of l.verdicts.items);
}
