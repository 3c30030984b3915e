use Rattle.std.proofs.Common.{◌≡◌, length}
use Rattle.udf_wanted.specs.Writable.{AreWritable}
use Rattle.udf_file_plan.specs.Base.{listed}
use Rattle.udf_file_plan.proofs.Overall.{ContentPut}
use Rattle.udf_file_plan.proofs.content.put_content.Given as goal

abbrev pub invariant-loop-i : goal.invariant-loop-i
invariant-loop-i g l = record {
  put : g.B.Bench.tells → ContentPut (listed l.volume (g.B.Bench.held l.initial.bench) (g.P.Parts.place l.parts)) l.list.runs l.content l.initial.wanted l.wanted l.left l.i;
  writable : AreWritable l.volume l.wanted;
  room : length l.room ≡ l.volume.size;
  files : g.B.Bench.files l.bench ≡ g.B.Bench.files l.initial.bench;
  held : g.B.Bench.held l.bench ≡ g.B.Bench.held l.initial.bench;
  calm : g.B.Bench.faults l.bench ≡ g.B.Bench.faults l.initial.bench;
}
