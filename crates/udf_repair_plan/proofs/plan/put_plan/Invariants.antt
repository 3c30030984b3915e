use Rattle.std.proofs.Common.{◌++◌, take}
use Rattle.udf_wanted.specs.Wanted.{LookAlike}
use Rattle.udf_wanted.specs.Writable.{AreWritable}
use Rattle.udf_repair_plan.proofs.plan.put_plan.Given as goal

abbrev pub invariant-loop-i : goal.invariant-loop-i
invariant-loop-i l = record {
  put : LookAlike l.wanted (l.initial.wanted ++ take l.i l.plan.blocks);
  writable : AreWritable l.volume l.wanted;
}
