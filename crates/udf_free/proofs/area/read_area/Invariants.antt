use Rattle.std.proofs.Common.{◌≡◌, ◌*◌, vec_len}
use Rattle.udf_outside.specs.Stops.{bytes_of}
use Rattle.udf_outside.specs.declared.bench.Role.TheVariants.{Image}
use Rattle.udf_file_model.specs.Content.{blocks_from}
use Rattle.udf_file_model.specs.Listing.{volume_of}
use Rattle.udf_free.proofs.area.read_area.Given as goal

abbrev pub invariant-loop-i : goal.invariant-loop-i
invariant-loop-i g l = record {
  bytes : g.B.Bench.tells
      → l.area.items ≡ blocks_from (volume_of l.size (bytes_of Image (g.B.Bench.held l.initial.bench)) (g.P.Parts.place l.parts)) 0 l.extent.block l.i;
  long : vec_len l.area ≡ l.i * l.size;
  room : vec_len l.room ≡ l.size;
  files : g.B.Bench.files l.bench ≡ g.B.Bench.files l.initial.bench;
  held : g.B.Bench.held l.bench ≡ g.B.Bench.held l.initial.bench;
  calm : g.B.Bench.faults l.bench ≡ g.B.Bench.faults l.initial.bench;
}
