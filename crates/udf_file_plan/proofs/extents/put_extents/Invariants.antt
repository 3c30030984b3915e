use Rattle.std.proofs.Common.{◌≡◌, length}
use Rattle.std.specs.Prelude.{option_map}
use Rattle.udf_wanted.specs.Writable.{AreWritable}
use Rattle.udf_file_plan.specs.Base.{listed}
use Rattle.udf_file_plan.specs.Cuts.{further_seen}
use Rattle.udf_file_plan.proofs.Chained.{ChainPut}
use Rattle.udf_file_plan.proofs.extents.put_extents.Given as goal

abbrev pub invariant-loop : goal.invariant-loop
invariant-loop g l = record {
  put : g.B.Bench.tells → ChainPut (listed l.volume (g.B.Bench.held l.initial.bench) (g.P.Parts.place l.parts)) l.kind l.many (option_map further_seen l.initial.next)
      l.initial.wanted l.wanted (option_map further_seen l.next) l.counter;
  writable : AreWritable l.volume l.wanted;
  room : length l.room ≡ l.volume.size;
  files : g.B.Bench.files l.bench ≡ g.B.Bench.files l.initial.bench;
  held : g.B.Bench.held l.bench ≡ g.B.Bench.held l.initial.bench;
  calm : g.B.Bench.faults l.bench ≡ g.B.Bench.faults l.initial.bench;
}
