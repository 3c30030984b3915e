use Rattle.std.proofs.Common.{◌∙◌, ◌+◌, refl, subst, arith, List, ℕ, ◌∷◌, []}
use Rattle.udf_model.specs.Bytes.{written_at}
use Rattle.udf_outside.specs.Stops.{Held}
use Rattle.udf_entry.proofs.Appending.{not_placed}
use Rattle.udf_file_model.specs.Address.{addr}
use Rattle.udf_file_model.specs.Content.{block_at}
use Rattle.udf_file_model.specs.Listing as listing
use Rattle.udf_file_mends.specs.Spread.{spread_from}
use Rattle.udf_file_plan.specs.Base.{PutsOf, listed}
use Rattle.udf_file_plan.proofs.Spreading.{front_begins, front_goes_on, front_ends}
use Rattle.udf_file_plan.proofs.content.put_blocks.Goals as goal

pub loop-i-init : goal.loop-i-init
loop-i-init g c = record {
  put = λ tells. front_begins (listed c.args.volume.now (g.B.Bench.held c.args.bench.now) (g.P.Parts.place c.args.parts.now)) c.args.at.part c.args.at.block c.args.bytes.now c.args.wanted.now;
  writable = c.requires.writable;
  room = c.requires.room;
  files = refl;
  held = refl;
  calm = refl;
}

pub returns-then-limit-at-clause-put : goal.returns-then-limit-at-clause-put
returns-then-limit-at-clause-put g c tells =
    let v = listed c.args.volume.now (g.B.Bench.held c.args.bench.now) (g.P.Parts.place c.args.parts.now) in
    subst (λ (n : ℕ). PutsOf v c.args.wanted.now c.loop-i.wanted (spread_from v c.args.at.part c.args.at.block n c.args.bytes.now)) c.blocks_of-blocks.ensures
    (front_ends v c.args.at.part c.args.at.block c.args.bytes.now c.args.wanted.now c.loop-i.wanted c.loop-i.i c.blocks_of-blocks.result (c.loop-i.invariant.put tells) (omega (arith, c.loop-i-test.true))
    (λ k l. not_placed (g.P.Parts.place c.args.parts.now) (g.P.Parts.blocks c.args.parts.now) (addr c.args.at.part (c.args.at.block + k))
    (g.met.P.Parts.within_blocks c.args.parts.now) (omega (arith, l, c.blocks-limit.ensures, c.if-limit-at.true))))

pub loop-i-preserved : goal.loop-i-preserved
loop-i-preserved g c = record {
  put = λ tells.
      let v : Held → listing.Volume = λ h. listed c.args.volume.now h (g.P.Parts.place c.args.parts.now) in
      front_goes_on (v (g.B.Bench.held c.args.bench.now)) c.args.at.part c.args.at.block c.args.bytes.now c.args.wanted.now c.loop-i.wanted c.put_front.new.wanted c.loop-i.i
      (c.loop-i.invariant.put tells)
      (subst (λ (chunk : List ℕ). PutsOf (v (g.B.Bench.held c.args.bench.now)) c.loop-i.wanted c.put_front.new.wanted ((addr c.args.at.part (c.args.at.block + c.loop-i.i), written_at 0 chunk (block_at (v (g.B.Bench.held c.args.bench.now)) (addr c.args.at.part (c.args.at.block + c.loop-i.i)))) ∷ []))
      c.chunk-front.ensures.chunk
      (subst (λ (h : Held). PutsOf (v h) c.loop-i.wanted c.put_front.new.wanted ((addr c.args.at.part (c.args.at.block + c.loop-i.i), written_at 0 c.chunk-front.result.now (block_at (v h) (addr c.args.at.part (c.args.at.block + c.loop-i.i)))) ∷ []))
      c.loop-i.invariant.held (c.in_ok-put_front.ensures.put tells)));
  writable = c.in_ok-put_front.ensures.writable;
  room = c.in_ok-put_front.ensures.room ∙ c.loop-i.invariant.room;
  files = c.in_ok-put_front.ensures.reads.files ∙ c.loop-i.invariant.files;
  held = c.in_ok-put_front.ensures.reads.held ∙ c.loop-i.invariant.held;
  calm = c.in_ok-put_front.ensures.reads.calm ∙ c.loop-i.invariant.calm;
}
