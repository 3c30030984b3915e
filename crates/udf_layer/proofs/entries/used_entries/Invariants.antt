-- The used ones of the entries so far.
use Rattle.std.proofs.Common.{◌≡◌, map}
use Rattle.std.specs.List.{range_with_len}
use Rattle.udf_layer.proofs.entries.used_entries.Given as goal
use Rattle.udf_volume_model.specs.SparingTable.{entry_at, used_pairs}

abbrev pub invariant-loop-i : goal.invariant-loop-i
invariant-loop-i l = record {
  packet : l.used.packet ≡ l.packet;
  pairs : l.used.pairs ≡ used_pairs l.packet l.blocks (map (entry_at l.table) (range_with_len 0 l.i));
}
