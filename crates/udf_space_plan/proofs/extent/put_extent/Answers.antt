use Rattle.std.proofs.Common.{◌≡◌, ◌∙◌, ◌+◌, refl, subst, arith, ℕ, ◌∷◌, []}
use Rattle.udf_model.specs.Bytes.{written_at}
use Rattle.udf_outside.specs.Stops.{Held}
use Rattle.udf_file_mends.specs.Spread.{spread_from}
use Rattle.udf_file_model.specs.Address.{addr}
use Rattle.udf_file_model.specs.Content.{block_at}
use Rattle.udf_file_model.specs.Front.{blocks_for}
use Rattle.udf_file_model.specs.Listing as listing
use Rattle.udf_space_plan.specs.Extent.{PutsAll, placed_blocks}
use Rattle.udf_space_plan.proofs.Spreading.{front_begins, front_goes_on}
use Rattle.udf_space_plan.proofs.extent.put_extent.Goals as goal

pub loop-i-init : goal.loop-i-init
loop-i-init g c = record {
  put = λ tells. front_begins (placed_blocks c.args.volume.now (g.B.Bench.held c.args.bench.now) (g.P.Parts.place c.args.parts.now)) 0 c.args.extent.block c.args.bytes.now c.args.wanted.now;
  writable = c.requires.writable;
  room = c.requires.room;
  files = refl;
  held = refl;
  calm = refl;
}

pub loop-i-preserved : goal.loop-i-preserved
loop-i-preserved g c = record {
  put = λ tells.
      let v : Held → listing.Volume = λ h. placed_blocks c.args.volume.now h (g.P.Parts.place c.args.parts.now) in
      front_goes_on (v (g.B.Bench.held c.args.bench.now)) 0 c.args.extent.block c.args.bytes.now c.args.wanted.now c.loop-i.wanted c.put_front.new.wanted c.loop-i.i c.chunk.result.now
      (c.loop-i.invariant.put tells) c.chunk.ensures.chunk
      (subst (λ (h : Held). PutsAll (v h) c.loop-i.wanted c.put_front.new.wanted
      ((addr 0 (c.args.extent.block + c.loop-i.i), written_at 0 c.chunk.result.now (block_at (v h) (addr 0 (c.args.extent.block + c.loop-i.i)))) ∷ []))
      c.loop-i.invariant.held (c.in_ok-put_front.ensures.put tells));
  writable = c.in_ok-put_front.ensures.writable;
  room = c.in_ok-put_front.ensures.room;
  files = c.in_ok-put_front.ensures.reads.files ∙ c.loop-i.invariant.files;
  held = c.in_ok-put_front.ensures.reads.held ∙ c.loop-i.invariant.held;
  calm = c.in_ok-put_front.ensures.reads.calm ∙ c.loop-i.invariant.calm;
}

pub returns-clause-put : goal.returns-clause-put
returns-clause-put g c = λ tells.
    let v = placed_blocks c.args.volume.now (g.B.Bench.held c.args.bench.now) (g.P.Parts.place c.args.parts.now) in
    let end : c.loop-i.i ≡ blocks_for v.size c.args.extent.length = omega (arith, c.blocks_of-i-end.ensures) in
    subst (λ (n : ℕ). PutsAll v c.args.wanted.now c.loop-i.wanted (spread_from v 0 c.args.extent.block n c.args.bytes.now)) end (c.loop-i.invariant.put tells)
