use Rattle.std.proofs.Common.{◌≡◌, ℕ, ◌<◌, true}
use Rattle.udf_outside.specs.Sectors.{disk_of}
use Rattle.udf_rules.specs.Slots.{recognition_by}
use Rattle.udf_rules.proofs.Recognising.{is_needed}
use Rattle.udf_rules.proofs.slots.is_bound.Given as goal

abbrev pub invariant-loop-slot : goal.invariant-loop-slot
invariant-loop-slot g l = record {
  files : g.B.Bench.files l.bench ≡ g.B.Bench.files l.initial.bench;
  held : g.B.Bench.held l.bench ≡ g.B.Bench.held l.initial.bench;
  calm : g.B.Bench.faults l.bench ≡ g.B.Bench.faults l.initial.bench;
  needed : g.B.Bench.tells → (k : ℕ) → k < l.slot → is_needed (recognition_by l.opened (disk_of l.opened.volume.size (g.B.Bench.held l.initial.bench))) k ≡ true;
}
