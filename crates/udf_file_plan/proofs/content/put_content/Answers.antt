use Rattle.std.proofs.Common.{◌∙◌, refl, subst, arith}
use Rattle.udf_outside.specs.Stops.{Held}
use Rattle.udf_entry.specs.RunView.{run_seen}
use Rattle.udf_file_model.specs.Listing as listing
use Rattle.udf_file_plan.specs.Base.{PutsOf, listed}
use Rattle.udf_file_plan.specs.Over.{spread_at}
use Rattle.udf_file_plan.proofs.Overall.{content_begins, content_ends, content_goes_on, take_least, drop_least}
use Rattle.udf_file_plan.proofs.content.put_content.Goals as goal

pub loop-i-init : goal.loop-i-init
loop-i-init g c = record {
  put = λ tells. content_begins (listed c.args.volume.now (g.B.Bench.held c.args.bench.now) (g.P.Parts.place c.args.parts.now)) c.args.list.now.runs c.args.content.now c.args.wanted.now;
  writable = c.requires.writable;
  room = c.requires.room;
  files = refl;
  held = refl;
  calm = refl;
}

pub loop-i-preserved : goal.loop-i-preserved
loop-i-preserved g c = record {
  put = λ tells.
      let v : Held → listing.Volume = λ h. listed c.args.volume.now h (g.P.Parts.place c.args.parts.now) in
      content_goes_on (v (g.B.Bench.held c.args.bench.now)) c.args.list.now.runs c.args.content.now c.args.wanted.now c.loop-i.wanted c.put_blocks.new.wanted c.loop-i.left.now
      c.split_at.result.0.now c.split_at.result.1.now c.loop-i.i (run_seen c.run-run.result) (c.loop-i.invariant.put tells) c.run-run.ensures
      (c.split_at.ensures.front ∙ take_least c.run-run.result.length c.min-many.result c.loop-i.left.now c.min-many.ensures)
      (c.split_at.ensures.back ∙ drop_least c.run-run.result.length c.min-many.result c.loop-i.left.now c.min-many.ensures)
      (subst (λ (h : Held). PutsOf (v h) c.loop-i.wanted c.put_blocks.new.wanted (spread_at (v h) c.run-run.result.at.part c.run-run.result.at.block c.split_at.result.0.now))
      c.loop-i.invariant.held (c.in_ok-put_blocks.ensures.put tells));
  writable = c.in_ok-put_blocks.ensures.writable;
  room = c.in_ok-put_blocks.ensures.room ∙ c.loop-i.invariant.room;
  files = c.in_ok-put_blocks.ensures.reads.files ∙ c.loop-i.invariant.files;
  held = c.in_ok-put_blocks.ensures.reads.held ∙ c.loop-i.invariant.held;
  calm = c.in_ok-put_blocks.ensures.reads.calm ∙ c.loop-i.invariant.calm;
}

pub returns-clause-put : goal.returns-clause-put
returns-clause-put g c tells =
    content_ends (listed c.args.volume.now (g.B.Bench.held c.args.bench.now) (g.P.Parts.place c.args.parts.now)) c.args.list.now.runs c.args.content.now c.args.wanted.now
    c.loop-i.wanted c.loop-i.left.now c.loop-i.i (c.loop-i.invariant.put tells) (omega (arith, c.loop-i-test.false, c.len-i-end.ensures))
