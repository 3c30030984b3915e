use Rattle.std.proofs.Common.{◌≡◌}
use Rattle.udf_outside.specs.Sectors.{disk_of}
use Rattle.udf_rules.specs.Slots.{recognition_by}
use Rattle.udf_rules.proofs.Recognising.{AreFirst}
use Rattle.udf_rules.proofs.slots.read_structures.Given as goal

abbrev pub invariant-loop-slot : goal.invariant-loop-slot
invariant-loop-slot g l = record {
  files : g.B.Bench.files l.bench ≡ g.B.Bench.files l.initial.bench;
  held : g.B.Bench.held l.bench ≡ g.B.Bench.held l.initial.bench;
  calm : g.B.Bench.faults l.bench ≡ g.B.Bench.faults l.initial.bench;
  first : g.B.Bench.tells → AreFirst (recognition_by l.opened (disk_of l.opened.volume.size (g.B.Bench.held l.initial.bench))) l.slot l.structures.items;
}
