use Rattle.std.proofs.Common.{◌≡◌, ◌≤◌, take}
use Rattle.udf_outside.specs.Stops.{bytes_of, IsDurable}
use Rattle.udf_outside.specs.Run.{Runs}
use Rattle.udf_outside.specs.declared.bench.Role.TheVariants.{Image, Side}
use Rattle.udf_redo.specs.Log.{records_of}
use Rattle.udf_redo.specs.Settled.{applied}
use Rattle.udf_redo.proofs.Applying.{IsNear}
use Rattle.udf_redo.proofs.replaying.replay_records.Given as goal

abbrev pub invariant-loop-k : goal.invariant-loop-k
invariant-loop-k g l =
    let start = g.B.Bench.held l.fn.bench in
    let now = g.B.Bench.held l.bench in record {
      files : g.B.Bench.files l.bench ≡ g.B.Bench.files l.fn.bench;
      faults : g.B.Bench.faults l.fn.bench ≤ g.B.Bench.faults l.bench;
      image : g.B.Bench.tells → bytes_of Image now ≡ applied l.head.size (take l.k (records_of (bytes_of Side start))) (bytes_of Image start);
      side : g.B.Bench.tells → bytes_of Side now ≡ bytes_of Side start;
      durable : g.B.Bench.tells → IsDurable Side now;
      runs : g.B.Bench.tells → Runs start now (IsNear (bytes_of Side start) (bytes_of Image start)) (IsNear (bytes_of Side start) (bytes_of Image start));
    }
