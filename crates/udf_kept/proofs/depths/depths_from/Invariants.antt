use Rattle.std.proofs.Common.{◌+◌, ◌≤◌, length}
use Rattle.std.specs.Prelude.{count_by, is_none}
use Rattle.udf_kept.proofs.Layering.{IsLayered}
use Rattle.udf_kept.proofs.depths.depths_from.Given as goal

abbrev pub invariant-loop-alloc : goal.invariant-loop-alloc
invariant-loop-alloc l = record {
  layered : IsLayered l.starts l.selected l.least l.depth l.depths.items l.layer.items;
  small : l.depth + count_by is_none l.depths.items + length l.layer.items ≤ length l.starts;
}

abbrev pub decreases-loop-alloc : goal.decreases-loop-alloc
decreases-loop-alloc l = count_by is_none l.depths.items + length l.layer.items
