use Rattle.std.proofs.Common.{◌≡◌, ℕ, take}
use Rattle.std.specs.BTreeMap.{get}
use Rattle.std.specs.List.Sorted.{IsStrictlySortedBy}
use Rattle.std.specs.Map.{keys_of}
use Rattle.std.specs.Ordering.{nat_cmp}
use Rattle.udf_file_model.specs.Listing.{Volume}
use Rattle.udf_tree_model.specs.Frame.{Frame, setting_of, tree_of}
use Rattle.udf_tree.specs.Judged.{judged_by}
use Rattle.udf_contents.specs.Stays.{Tells}
use Rattle.udf_tree.proofs.judge.verdicts_of.Given as goal

abbrev pub invariant-loop-link : goal.invariant-loop-link
invariant-loop-link l = record {
  sorted : IsStrictlySortedBy nat_cmp (keys_of l.verdicts.entries);
  told : (f : Frame) (v : Volume) → Tells f v l.held l.selected → (q : ℕ) → get nat_cmp l.verdicts q ≡ judged_by (setting_of f v) (tree_of f v) l.entry.at (take l.link-index l.entry.links.items) q;
}
