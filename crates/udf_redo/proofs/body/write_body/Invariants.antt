use Rattle.std.proofs.Common.{◌≡◌, ◌≤◌, ◌+◌, ◌*◌, ◌++◌, take, length}
use Rattle.std.specs.List.{flat_map}
use Rattle.udf_outside.specs.Files.{resized}
use Rattle.udf_outside.specs.Stops.{bytes_of, put, IsDurable}
use Rattle.udf_outside.specs.Run.{Runs}
use Rattle.udf_outside.specs.declared.bench.Role.TheVariants.{Image, Side}
use Rattle.udf_redo.specs.Log.{head_bytes, record_bytes}
use Rattle.udf_redo.specs.Front.{BeginsWith}
use Rattle.udf_redo.proofs.body.write_body.Given as goal

abbrev pub invariant-loop-i : goal.invariant-loop-i
invariant-loop-i g l =
    let start = g.B.Bench.held l.fn.bench in
    let now = g.B.Bench.held l.bench in
    let now_files = g.B.Bench.files l.bench in record {
      files : now_files ≡ resized Side now_files.side.size (g.B.Bench.files l.fn.bench);
      long : 9 + length (head_bytes l.head ++ flat_map record_bytes (take l.i l.plan.blocks)) ≡ 61 + l.i * (4 + l.head.size);
      within : 61 + l.i * (4 + l.head.size) ≤ now_files.side.size;
      faults : g.B.Bench.faults l.fn.bench ≤ g.B.Bench.faults l.bench;
      image : g.B.Bench.tells → bytes_of Image now ≡ bytes_of Image start;
      side : g.B.Bench.tells → bytes_of Side now ≡ put (bytes_of Side start) 9 (head_bytes l.head ++ flat_map record_bytes (take l.i l.plan.blocks));
      durable : g.B.Bench.tells → IsDurable Image now;
      runs : g.B.Bench.tells → Runs start now (BeginsWith (bytes_of Image start) (take 9 (bytes_of Side start))) (BeginsWith (bytes_of Image start) (take 9 (bytes_of Side start)));
    }
