use Rattle.std.proofs.Common.{take}
use Rattle.std.specs.BTreeMap.{get}
use Rattle.udf_kept.specs.Indexed.{IsIndex}
use Rattle.udf_found.specs.Order.{addr_cmp}
use Rattle.udf_kept.proofs.positions.positions_of.Given as goal

abbrev pub invariant-loop-i : goal.invariant-loop-i
invariant-loop-i l = IsIndex (take l.i l.held) (get addr_cmp l.positions)
