use Rattle.std.proofs.Common.{◌≡◌, length, take}
use Rattle.udf_file_model.specs.Listing.{Volume}
use Rattle.udf_tree_model.specs.Frame.{Frame}
use Rattle.udf_contents.specs.Stays.{AreMends, Surveys}
use Rattle.udf_contents.proofs.stays.mends_by.Given as goal

abbrev pub invariant-loop-i : goal.invariant-loop-i
invariant-loop-i l = record {
  long : length l.mends.items ≡ l.i;
  are : (f : Frame) (v : Volume) → Surveys f v l.root l.file_set l.held l.selected l.kept → AreMends f v (take l.i l.held) (take l.i l.kept) l.mends.items;
}
