use Rattle.std.proofs.Common.{◌≡◌, ◌++◌, drop}
use Rattle.udf_found.specs.Merged.{merged}
use Rattle.udf_found.specs.Shape.{pieces_seen}
use Rattle.udf_found.proofs.pieces.pieces_of.Given as goal

abbrev pub invariant-loop-i : goal.invariant-loop-i
invariant-loop-i l = record {
  added : pieces_seen l.pieces.items ++ merged l.holder (drop l.next l.list.extents) (drop l.i l.list.runs) ≡ merged l.fn.own l.list.extents l.list.runs;
}
