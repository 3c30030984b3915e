-- The deviations among the tables so far, and the bench as it was.
use Rattle.std.proofs.Common.{◌≡◌}
use Rattle.std.specs.List.{All}
use Rattle.udf_outside.specs.Sectors.{disk_of}
use Rattle.udf_layer.specs.Verdict.{IsListed}
use Rattle.udf_layer.proofs.Told.{first_deviations}
use Rattle.udf_layer.proofs.agreement.deviations.Given as goal

abbrev pub invariant-loop-i : goal.invariant-loop-i
invariant-loop-i g l = record {
  files : g.B.Bench.files l.bench ≡ g.B.Bench.files l.initial.bench;
  held : g.B.Bench.held l.bench ≡ g.B.Bench.held l.initial.bench;
  calm : g.B.Bench.faults l.bench ≡ g.B.Bench.faults l.initial.bench;
  listed : All (λ d. IsListed l.map d.at) l.deviating.items;
  told : g.B.Bench.tells → l.deviating.items ≡ first_deviations l.size (disk_of l.size (g.B.Bench.held l.initial.bench)) l.map l.prevailing l.i;
}
