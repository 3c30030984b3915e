use Rattle.std.proofs.Common.{◌≡◌, ◌*◌}
use Rattle.sha2.specs.Hashers.{Holds256}
use Rattle.udf_outside.specs.Stops.{bytes_of, slice_of}
use Rattle.udf_outside.specs.declared.bench.Role.TheVariants.{Image}
use Rattle.udf_redo.proofs.seal.digest_of.Given as goal

abbrev pub invariant-loop-i : goal.invariant-loop-i
invariant-loop-i g l = record {
  files : g.B.Bench.files l.bench ≡ g.B.Bench.files l.fn.bench;
  held : g.B.Bench.held l.bench ≡ g.B.Bench.held l.fn.bench;
  faults : g.B.Bench.faults l.bench ≡ g.B.Bench.faults l.fn.bench;
  holds : g.B.Bench.tells → Holds256 l.hasher (slice_of (bytes_of Image (g.B.Bench.held l.fn.bench)) (l.first * l.size) (l.i * l.size));
}
