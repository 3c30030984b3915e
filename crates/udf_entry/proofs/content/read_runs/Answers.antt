use Rattle.std.proofs.Common.{◌-◌, ◌++◌, take, arith, ◌∙◌, ap, refl, get_or}
use Rattle.udf_outside.specs.Stops.{bytes_of, Held}
use Rattle.udf_outside.specs.declared.bench.Role.TheVariants.{Image}
use Rattle.udf_file_model.specs.Listing.{Volume, volume_of}
use Rattle.udf_file_model.specs.Content.{run_bytes}
use Rattle.udf_entry.specs.RunView.{run_seen}
use Rattle.udf_entry.proofs.RunBytes.{no_run, no_run_here, one_run}
use Rattle.udf_entry.proofs.content.read_runs.Goals as goal

pub loop-run-init : goal.loop-run-init
loop-run-init g c = record {
  read = λ tells. no_run (volume_of c.args.size (bytes_of Image (g.B.Bench.held c.args.bench.now)) (g.P.Parts.place c.args.parts.now)) c.args.end c.new-content.result.items c.new-content.ensures.items;
  short = omega (arith, c.new-content.ensures.len);
  room = c.requires.room;
  files = refl;
  held = refl;
  calm = refl;
}

pub loop-run-preserved : goal.loop-run-preserved
loop-run-preserved g c = record {
  read = λ tells.
      let volume : Held → Volume = λ h. volume_of c.args.size (bytes_of Image h) (g.P.Parts.place c.args.parts.now) in
      one_run (volume (g.B.Bench.held c.args.bench.now)) c.args.end c.loop-run.run-index (c.args.end - c.len.result) c.args.runs.now no_run_here c.loop-run.content.items c.append_run.new.content.items
      (omega arith) (c.loop-run.invariant.read tells) (omega (arith, c.len.ensures))
      (c.in_ok-append_run.ensures.bytes tells
      ∙ ap (λ h. c.loop-run.content.items ++ take (c.args.end - c.len.result) (run_bytes (volume h) (run_seen (get_or c.args.runs.now c.loop-run.run-index no_run_here)))) c.loop-run.invariant.held);
  short = omega (arith, c.in_ok-append_run.ensures.short, c.loop-run.invariant.short);
  room = omega (arith, c.loop-run.invariant.room);
  files = c.in_ok-append_run.ensures.reads.files ∙ c.loop-run.invariant.files;
  held = c.in_ok-append_run.ensures.reads.held ∙ c.loop-run.invariant.held;
  calm = c.in_ok-append_run.ensures.reads.calm ∙ c.loop-run.invariant.calm;
}
