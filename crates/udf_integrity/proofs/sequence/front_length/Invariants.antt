use Rattle.std.proofs.Common.{◌≡◌}
use Rattle.udf_outside.specs.Sectors.{disk_of}
use Rattle.udf_integrity.proofs.Extent.{HoldDescriptors}
use Rattle.udf_integrity.proofs.sequence.front_length.Given as goal

abbrev pub invariant-loop-i : goal.invariant-loop-i
invariant-loop-i g l = record {
  files : g.B.Bench.files l.bench ≡ g.B.Bench.files l.initial.bench;
  held : g.B.Bench.held l.bench ≡ g.B.Bench.held l.initial.bench;
  calm : g.B.Bench.faults l.bench ≡ g.B.Bench.faults l.initial.bench;
  passed : g.B.Bench.tells → HoldDescriptors l.volume.size (disk_of l.volume.size (g.B.Bench.held l.initial.bench)) l.volume.integrity l.i;
}
