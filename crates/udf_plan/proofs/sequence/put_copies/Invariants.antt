use Rattle.std.proofs.Common.{◌≡◌, ◌++◌}
use Rattle.udf_outside.specs.Sectors.{disk_of}
use Rattle.udf_plan.specs.Stated.{moved}
use Rattle.udf_wanted.specs.Wanted.{LookAlike}
use Rattle.udf_wanted.specs.Writable.{AreWritable}
use Rattle.udf_plan.proofs.sequence.put_copies.Given as goal

abbrev pub invariant-loop-i : goal.invariant-loop-i
invariant-loop-i g l = record {
  files : g.B.Bench.files l.bench ≡ g.B.Bench.files l.initial.bench;
  held : g.B.Bench.held l.bench ≡ g.B.Bench.held l.initial.bench;
  calm : g.B.Bench.faults l.bench ≡ g.B.Bench.faults l.initial.bench;
  writable : AreWritable l.volume l.wanted;
  put : g.B.Bench.tells → LookAlike l.wanted (l.initial.wanted
      ++ moved (disk_of l.volume.size (g.B.Bench.held l.initial.bench)) l.from l.to l.i);
}
