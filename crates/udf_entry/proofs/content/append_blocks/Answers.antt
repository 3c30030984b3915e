use Rattle.std.proofs.Common.{◌+◌, ◌-◌, ◌++◌, take, arith, ◌∙◌, ap, refl}
use Rattle.udf_outside.specs.Stops.{bytes_of, Held}
use Rattle.udf_outside.specs.declared.bench.Role.TheVariants.{Image}
use Rattle.udf_file_model.specs.Address.{addr}
use Rattle.udf_file_model.specs.Listing.{Volume, volume_of}
use Rattle.udf_file_model.specs.Content.{block_at}
use Rattle.udf_entry.proofs.Appending.{none_appended, one_appended, enough, past_end, not_placed}
use Rattle.udf_entry.proofs.content.append_blocks.Goals as goal

pub loop-i-init : goal.loop-i-init
loop-i-init g c = record {
  appended = λ tells. none_appended (volume_of c.args.size (bytes_of Image (g.B.Bench.held c.args.bench.now)) (g.P.Parts.place c.args.parts.now)) c.args.at.part c.args.at.block c.args.want c.args.content.now.items;
  short = omega arith;
  room = c.requires.room;
  files = refl;
  held = refl;
  calm = refl;
}

pub returns-then-left-eq0-clause-bytes : goal.returns-then-left-eq0-clause-bytes
returns-then-left-eq0-clause-bytes g c tells =
    enough (volume_of c.args.size (bytes_of Image (g.B.Bench.held c.args.bench.now)) (g.P.Parts.place c.args.parts.now)) c.args.at.part c.args.at.block c.args.want c.args.content.now.items
    c.loop-i.content.items c.loop-i.i c.args.blocks (c.loop-i.invariant.appended tells) (omega arith) (omega arith)

pub loop-i-preserved : goal.loop-i-preserved
loop-i-preserved g c = record {
  appended = λ tells.
      let volume : Held → Volume = λ h. volume_of c.args.size (bytes_of Image h) (g.P.Parts.place c.args.parts.now) in
      one_appended (volume (g.B.Bench.held c.args.bench.now)) c.args.at.part c.args.at.block c.args.want c.args.content.now.items c.loop-i.content.items c.append_block.new.content.items
      c.loop-i.i (c.len.result + c.args.want - c.len-in-loop-i.result) (c.loop-i.invariant.appended tells)
      (omega (arith, c.len.ensures, c.len-in-loop-i.ensures))
      (c.in_ok-append_block.ensures.bytes tells
      ∙ ap (λ h. c.loop-i.content.items ++ take (c.len.result + c.args.want - c.len-in-loop-i.result) (block_at (volume h) (addr c.args.at.part (c.args.at.block + c.loop-i.i)))) c.loop-i.invariant.held);
  short = omega (arith, c.in_ok-append_block.ensures.short, c.len.ensures, c.len-in-loop-i.ensures, c.loop-i.invariant.short);
  room = omega (arith, c.loop-i.invariant.room);
  files = c.in_ok-append_block.ensures.reads.files ∙ c.loop-i.invariant.files;
  held = c.in_ok-append_block.ensures.reads.held ∙ c.loop-i.invariant.held;
  calm = c.in_ok-append_block.ensures.reads.calm ∙ c.loop-i.invariant.calm;
}

pub returns-then-limit-at-clause-bytes : goal.returns-then-limit-at-clause-bytes
returns-then-limit-at-clause-bytes g c tells =
    past_end (volume_of c.args.size (bytes_of Image (g.B.Bench.held c.args.bench.now)) (g.P.Parts.place c.args.parts.now)) c.args.at.part c.args.at.block c.args.want c.args.content.now.items
    c.loop-i.content.items c.loop-i.i c.args.blocks (c.loop-i.invariant.appended tells) (omega arith)
    (λ k l. not_placed (g.P.Parts.place c.args.parts.now) (g.P.Parts.blocks c.args.parts.now) (addr c.args.at.part (c.args.at.block + k))
    (g.met.P.Parts.within_blocks c.args.parts.now) (omega (arith, l, c.blocks-limit.ensures)))
