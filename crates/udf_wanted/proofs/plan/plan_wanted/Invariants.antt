use Rattle.std.proofs.Common.{◌≡◌, ◌++◌}
use Rattle.udf_outside.specs.Sectors.{disk_of}
use Rattle.udf_volume_model.specs.Plans.{ClimbsFrom}
use Rattle.udf_blocks.specs.Planned.{IsLawful}
use Rattle.udf_wanted.specs.Kept.{kept}
use Rattle.udf_wanted.specs.Wanted.{differing}
use Rattle.udf_wanted.specs.Writable.{AreWritable}
use Rattle.udf_wanted.proofs.plan.plan_wanted.Given as goal

abbrev pub invariant-loop-sector : goal.invariant-loop-sector
invariant-loop-sector g l = record {
  can_next : (goal.iterator-loop-sector g).can_next l.sector-iterator;
  is_finite : (goal.iterator-loop-sector g).is_finite l.sector-iterator;
  files : g.B.Bench.files l.bench ≡ g.B.Bench.files l.initial.bench;
  held : g.B.Bench.held l.bench ≡ g.B.Bench.held l.initial.bench;
  calm : g.B.Bench.faults l.bench ≡ g.B.Bench.faults l.initial.bench;
  sized : l.plan.size ≡ l.volume.size;
  lawful : IsLawful l.plan;
  ascends : ClimbsFrom 0 l.wanted;
  climbs : ClimbsFrom 0 (l.plan.blocks ++ kept l.sector-iterator);
  writable : AreWritable l.volume (l.plan.blocks ++ kept l.sector-iterator);
  added : g.B.Bench.tells → l.plan.blocks ++ differing (disk_of l.volume.size (g.B.Bench.held l.initial.bench)) (kept l.sector-iterator)
      ≡ differing (disk_of l.volume.size (g.B.Bench.held l.initial.bench)) l.wanted;
}
