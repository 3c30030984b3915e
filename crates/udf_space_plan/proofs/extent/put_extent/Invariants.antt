use Rattle.std.proofs.Common.{◌≡◌, length}
use Rattle.udf_file_mends.specs.Spread.{spread_from}
use Rattle.udf_space_plan.specs.Extent.{PutsAll, placed_blocks}
use Rattle.udf_wanted.specs.Writable.{AreWritable}
use Rattle.udf_space_plan.proofs.extent.put_extent.Given as goal

abbrev pub invariant-loop-i : goal.invariant-loop-i
invariant-loop-i g l = record {
  put : g.B.Bench.tells → PutsAll (placed_blocks l.volume (g.B.Bench.held l.initial.bench) (g.P.Parts.place l.parts)) l.initial.wanted l.wanted
      (spread_from (placed_blocks l.volume (g.B.Bench.held l.initial.bench) (g.P.Parts.place l.parts)) 0 l.extent.block l.i l.bytes);
  writable : AreWritable l.volume l.wanted;
  room : length l.block ≡ l.volume.size;
  files : g.B.Bench.files l.bench ≡ g.B.Bench.files l.initial.bench;
  held : g.B.Bench.held l.bench ≡ g.B.Bench.held l.initial.bench;
  calm : g.B.Bench.faults l.bench ≡ g.B.Bench.faults l.initial.bench;
}
