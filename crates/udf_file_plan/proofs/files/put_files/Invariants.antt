use Rattle.std.proofs.Common.{◌≡◌, length, take}
use Rattle.udf_files.specs.Files.{places_in}
use Rattle.udf_file_mends.specs.Repairable.{IsRepairable}
use Rattle.udf_tree.specs.Survey.{IsSurvey}
use Rattle.udf_tree_model.specs.Frame.{Frame}
use Rattle.udf_wanted.specs.Writable.{AreWritable}
use Rattle.udf_file_plan.specs.Base.{listed}
use Rattle.udf_file_plan.proofs.Along.{EntriesPut}
use Rattle.udf_file_plan.proofs.files.put_files.Given as goal

abbrev pub invariant-loop-id : goal.invariant-loop-id
invariant-loop-id g l = record {
  put : g.B.Bench.tells → (f : Frame) → let v = listed l.files.volume (g.B.Bench.held l.initial.bench) (places_in l.files) in IsSurvey f v l.files.survey → IsRepairable f v
      → EntriesPut f v l.files.survey l.initial.wanted l.wanted (take l.id-index l.order);
  writable : AreWritable l.files.volume l.wanted;
  block : length l.block ≡ l.files.volume.size;
  room : length l.room.items ≡ l.files.volume.size;
  files : g.B.Bench.files l.bench ≡ g.B.Bench.files l.initial.bench;
  held : g.B.Bench.held l.bench ≡ g.B.Bench.held l.initial.bench;
  calm : g.B.Bench.faults l.bench ≡ g.B.Bench.faults l.initial.bench;
}
