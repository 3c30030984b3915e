use Rattle.std.proofs.Common.{◌≡◌, ◌+◌, ◌*◌, ◌≤◌, ◌++◌, arith, ap, refl, sym, ◌∙◌, take}
use Rattle.udf_outside.specs.Stops.{bytes_of, Held}
use Rattle.udf_outside.specs.declared.bench.Role.TheVariants.{Image}
use Rattle.udf_file_model.specs.Address.{addr}
use Rattle.udf_file_model.specs.Content.{block_at, blocks_from}
use Rattle.udf_file_model.specs.Front.{blocks_for}
use Rattle.udf_file_model.specs.Listing.{Volume, volume_of}
use Rattle.udf_rules_model.specs.Bitmap.{area_of}
use Rattle.udf_free.proofs.Reading.{block_more, bytes_fit}
use Rattle.udf_free.proofs.area.read_area.Goals as goal

pub loop-i-init : goal.loop-i-init
unfolding blocks_from
loop-i-init g c = record {
  bytes = λ tells. c.new-area.ensures.items;
  long = omega (arith, c.new-area.ensures.len);
  room = omega (arith, c.in_ok-room.ensures.len);
  files = refl;
  held = refl;
  calm = refl;
}

pub append_block-requires-clause-placed : goal.append_block-requires-clause-placed
append_block-requires-clause-placed g c = c.requires.placed (c.args.extent.block + c.loop-i.i) (omega (arith, c.requires.within, c.blocks_of-i-end.ensures))

pub loop-i-preserved : goal.loop-i-preserved
loop-i-preserved g c = record {
  bytes = λ tells.
      let volume : Held → Volume = λ h. volume_of c.args.size (bytes_of Image h) (g.P.Parts.place c.args.parts.now) in
      let old = volume (g.B.Bench.held c.args.bench.now) in
      c.in_ok-append_block.ensures.bytes tells
      ∙ ap (λ h. c.loop-i.area.items ++ block_at (volume h) (addr 0 (c.args.extent.block + c.loop-i.i))) c.loop-i.invariant.held
      ∙ ap (λ xs. xs ++ block_at old (addr 0 (c.args.extent.block + c.loop-i.i))) (c.loop-i.invariant.bytes tells)
      ∙ sym (block_more old c.args.extent.block c.loop-i.i);
  long = omega (arith, c.in_ok-append_block.ensures.long, c.loop-i.invariant.long);
  room = omega (arith, c.loop-i.invariant.room);
  files = c.in_ok-append_block.ensures.reads.files ∙ c.loop-i.invariant.files;
  held = c.in_ok-append_block.ensures.reads.held ∙ c.loop-i.invariant.held;
  calm = c.in_ok-append_block.ensures.reads.calm ∙ c.loop-i.invariant.calm;
}

pub returns-clause-bytes : goal.returns-clause-bytes
unfolding area_of
returns-clause-bytes g c = λ tells.
    let v = volume_of c.args.size (bytes_of Image (g.B.Bench.held c.args.bench.now)) (g.P.Parts.place c.args.parts.now) in
    let end : c.loop-i.i ≡ blocks_for c.args.size c.args.extent.length = omega (arith, c.blocks_of-i-end.ensures) in
    c.truncate.ensures.items ∙ ap (take c.args.extent.length) (c.loop-i.invariant.bytes tells ∙ ap (blocks_from v 0 c.args.extent.block) end)

pub returns-clause-long : goal.returns-clause-long
returns-clause-long g c =
    let end : c.loop-i.i ≡ blocks_for c.args.size c.args.extent.length = omega (arith, c.blocks_of-i-end.ensures) in
    let fits : c.args.extent.length ≤ c.loop-i.i * c.args.size =
    omega (arith, bytes_fit c.args.size c.args.extent.length c.requires.some, ap (λ n. n * c.args.size) end) in
    omega (arith, fits, c.loop-i.invariant.long, c.truncate.ensures.len)
