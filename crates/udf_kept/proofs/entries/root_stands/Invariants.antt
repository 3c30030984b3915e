use Rattle.std.proofs.Common.{◌≡◌, false, take}
use Rattle.udf_found.specs.Order.{is_known}
use Rattle.udf_kept.proofs.entries.root_stands.Given as goal

abbrev pub invariant-loop-i : goal.invariant-loop-i
invariant-loop-i l = record { other : is_known l.root (take l.i l.arena) ≡ false }
