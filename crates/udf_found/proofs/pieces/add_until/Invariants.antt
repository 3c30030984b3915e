use Rattle.std.proofs.Common.{◌≡◌, ◌++◌, drop, map}
use Rattle.udf_file_model.specs.Pieces.{Extent}
use Rattle.udf_found.specs.Merged.{extents_after, extents_until}
use Rattle.udf_found.specs.Shape.{pieces_seen}
use Rattle.udf_found.proofs.pieces.add_until.Given as goal

abbrev pub invariant-loop-i : goal.invariant-loop-i
invariant-loop-i l = record {
  added : pieces_seen l.pieces.items ++ map Extent (extents_until l.holder (drop l.i l.list.extents)) ≡ pieces_seen l.fn.pieces.items ++ map Extent (extents_until l.holder (drop l.fn.next l.list.extents));
  left : extents_after l.holder (drop l.i l.list.extents) ≡ extents_after l.holder (drop l.fn.next l.list.extents);
}
