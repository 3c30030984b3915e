use Rattle.std.proofs.Common.{◌≡◌, ◌++◌, take}
use Rattle.std.specs.List.{flat_map}
use Rattle.udf_outside.specs.Sectors.{disk_of}
use Rattle.udf_volume_model.specs.SparingRule.{table_blocks}
use Rattle.udf_wanted.specs.Wanted.{LookAlike}
use Rattle.udf_wanted.specs.Writable.{AreWritable}
use Rattle.udf_plan.proofs.tables.put_in_place.Given as goal

abbrev pub invariant-loop-other : goal.invariant-loop-other
invariant-loop-other g l = record {
  files : g.B.Bench.files l.bench ≡ g.B.Bench.files l.initial.bench;
  held : g.B.Bench.held l.bench ≡ g.B.Bench.held l.initial.bench;
  calm : g.B.Bench.faults l.bench ≡ g.B.Bench.faults l.initial.bench;
  writable : AreWritable l.volume l.wanted;
  put : g.B.Bench.tells → LookAlike l.wanted (l.initial.wanted
      ++ flat_map (λ other. table_blocks l.volume.size (disk_of l.volume.size (g.B.Bench.held l.initial.bench)) l.table other.at) (take l.other-index l.others));
}
