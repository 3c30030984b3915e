-- The best of the tables so far, and the bench as it was.
use Rattle.std.proofs.Common.{◌≡◌}
use Rattle.udf_outside.specs.Sectors.{disk_of}
use Rattle.udf_layer.specs.Fronts.{table_bytes}
use Rattle.udf_layer.specs.Tables.{map_seen}
use Rattle.udf_layer.specs.Read.{IsBest, IsOfTable}
use Rattle.udf_layer.proofs.prevailing.best_table.Given as goal
use Rattle.udf_volume_model.specs.SparingTable.{listed_area, listed_number}

abbrev pub invariant-loop-i : goal.invariant-loop-i
invariant-loop-i g l = record {
  files : g.B.Bench.files l.bench ≡ g.B.Bench.files l.initial.bench;
  held : g.B.Bench.held l.bench ≡ g.B.Bench.held l.initial.bench;
  calm : g.B.Bench.faults l.bench ≡ g.B.Bench.faults l.initial.bench;
  of : IsOfTable l.map.bytes l.best;
  best : g.B.Bench.tells → IsBest (listed_number l.size (disk_of l.size (g.B.Bench.held l.initial.bench)) (map_seen l.map))
      (λ i. table_bytes (listed_area l.size (disk_of l.size (g.B.Bench.held l.initial.bench)) (map_seen l.map) i)) l.i l.best;
}
