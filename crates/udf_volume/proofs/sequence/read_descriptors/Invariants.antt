use Rattle.std.proofs.Common.{◌≡◌, ◌≤◌, length}
use Rattle.udf_outside.specs.Stops.{bytes_of}
use Rattle.udf_outside.specs.declared.bench.Role.TheVariants.{Image}
use Rattle.udf_model.specs.Image.{block_of}
use Rattle.udf_volume.proofs.Gather.{SoFar}
use Rattle.udf_volume.proofs.sequence.read_descriptors.Given as goal

abbrev pub invariant-loop-i : goal.invariant-loop-i
invariant-loop-i g l = record {
  files : g.B.Bench.files l.bench ≡ g.B.Bench.files l.initial.bench;
  held : g.B.Bench.held l.bench ≡ g.B.Bench.held l.initial.bench;
  calm : g.B.Bench.faults l.bench ≡ g.B.Bench.faults l.initial.bench;
  short : length l.descriptors.items ≤ l.i;
  so_far : g.B.Bench.tells → SoFar (block_of l.size (bytes_of Image (g.B.Bench.held l.initial.bench))) l.start l.count l.i l.descriptors.items;
}
