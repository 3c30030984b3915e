use Rattle.std.proofs.Common.{◌≡◌, length}
use Rattle.std.specs.BTreeMap.{get}
use Rattle.udf_dues.specs.Marks.{AreMarked, marks_below}
use Rattle.udf_found.specs.Order.{addr_cmp}
use Rattle.udf_dues.proofs.counts.count_all.Given as goal

abbrev pub invariant-loop-position : goal.invariant-loop-position
invariant-loop-position l = record {
  len : length l.counts.items ≡ length l.parents;
  marked : AreMarked (marks_below (get addr_cmp l.positions) l.selected l.parents l.position) l.counts.items;
}
