use Rattle.std.proofs.Common.{◌≡◌, ◌++◌, take}
use Rattle.udf_outside.specs.Sectors.{disk_of}
use Rattle.udf_plan.specs.Stated.{copies_at}
use Rattle.udf_wanted.specs.Wanted.{LookAlike}
use Rattle.udf_wanted.specs.Writable.{AreWritable}
use Rattle.udf_plan.proofs.anchors.put_at_places.Given as goal

abbrev pub invariant-loop-place : goal.invariant-loop-place
invariant-loop-place g l = record {
  files : g.B.Bench.files l.bench ≡ g.B.Bench.files l.initial.bench;
  held : g.B.Bench.held l.bench ≡ g.B.Bench.held l.initial.bench;
  calm : g.B.Bench.faults l.bench ≡ g.B.Bench.faults l.initial.bench;
  writable : AreWritable l.volume l.wanted;
  put : g.B.Bench.tells → LookAlike l.wanted (l.initial.wanted
      ++ copies_at (disk_of l.volume.size (g.B.Bench.held l.initial.bench) l.volume.anchor) (take l.place-index l.places));
}
