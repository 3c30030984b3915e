use Rattle.std.proofs.Common.{◌++◌}
use Rattle.udf_volume_model.specs.SparingRule.{blocks_cut}
use Rattle.udf_wanted.specs.Wanted.{LookAlike}
use Rattle.udf_wanted.specs.Writable.{AreWritable}
use Rattle.udf_plan.proofs.tables.put_area.Given as goal

abbrev pub invariant-loop-i : goal.invariant-loop-i
invariant-loop-i l = record {
  writable : AreWritable l.volume l.wanted;
  put : LookAlike l.wanted (l.initial.wanted ++ blocks_cut l.volume.size l.sector l.i l.area);
}
