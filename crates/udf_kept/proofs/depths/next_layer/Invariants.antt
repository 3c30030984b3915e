use Rattle.std.proofs.Common.{take}
use Rattle.std.specs.List.{flat_map}
use Rattle.udf_kept.specs.Depths.{IsReached, edges}
use Rattle.udf_kept.proofs.depths.next_layer.Given as goal

abbrev pub invariant-loop-entry : goal.invariant-loop-entry
invariant-loop-entry l = IsReached l.initial.depths (flat_map (edges l.least l.selected) (take l.entry-index l.layer)) l.depth l.depths l.next.items
