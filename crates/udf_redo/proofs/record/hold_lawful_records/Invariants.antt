use Rattle.std.proofs.Common.{◌≡◌, drop}
use Rattle.udf_outside.specs.Stops.{bytes_of}
use Rattle.udf_outside.specs.declared.bench.Role.TheVariants.{Side}
use Rattle.udf_redo.specs.Log.{are_lawful, records_in}
use Rattle.udf_redo.proofs.Finding.{left}
use Rattle.udf_redo.proofs.record.hold_lawful_records.Given as goal

abbrev pub invariant-loop-k : goal.invariant-loop-k
invariant-loop-k g l = record {
  files : g.B.Bench.files l.bench ≡ g.B.Bench.files l.fn.bench;
  held : g.B.Bench.held l.bench ≡ g.B.Bench.held l.fn.bench;
  faults : g.B.Bench.faults l.bench ≡ g.B.Bench.faults l.fn.bench;
  rest : g.B.Bench.tells → are_lawful l.head 0 (records_in l.head.size l.head.records (drop 61 (bytes_of Side (g.B.Bench.held l.fn.bench))))
      ≡ are_lawful l.head l.least (left (bytes_of Side (g.B.Bench.held l.fn.bench)) l.head l.k);
}
