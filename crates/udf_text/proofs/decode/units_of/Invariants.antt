use Rattle.std.proofs.Common.{◌≡◌, ◌≤◌, ◌*◌, ◌-◌, ◌++◌, length, drop}
use Rattle.udf_text.specs.Compressed.{units}
use Rattle.udf_text.proofs.decode.units_of.Given as goal

abbrev pub invariant-loop-at : goal.invariant-loop-at
invariant-loop-at l = record {
  within : l.at ≤ length l.bytes;
  even : l.at ≡ 2 * length l.read.items;
  rest : l.read.items ++ units (drop l.at l.bytes) ≡ units l.bytes;
}

abbrev pub decreases-loop-at : goal.decreases-loop-at
decreases-loop-at l = length l.bytes - l.at
