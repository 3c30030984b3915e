use Rattle.std.proofs.Common.{◌∙◌, ap, refl, subst, arith}
use Rattle.std.specs.Prelude.{option_map, ◌∷◌, []}
use Rattle.udf_outside.specs.Stops.{Held}
use Rattle.udf_file_model.specs.Cut.{Onward, onward}
use Rattle.udf_file_model.specs.Listing as listing
use Rattle.udf_file_model.specs.Listing.{descriptors_in}
use Rattle.udf_file_plan.specs.Base.{PutsOf, listed}
use Rattle.udf_file_plan.specs.Chain.{extents_left}
use Rattle.udf_file_plan.specs.Cuts.{further_seen}
use Rattle.udf_file_plan.proofs.Chained.{chain_begins, chain_stops, chain_ends, chain_goes_on}
use Rattle.udf_file_plan.proofs.extents.put_extents.Goals as goal

pub loop-init : goal.loop-init
loop-init g c = record {
  put = λ tells. chain_begins (listed c.args.volume.now (g.B.Bench.held c.args.bench.now) (g.P.Parts.place c.args.parts.now)) c.args.kind c.args.many (option_map further_seen c.args.first)
      c.args.wanted.now;
  writable = c.requires.writable;
  room = c.requires.room;
  files = refl;
  held = refl;
  calm = refl;
}

pub returns-in_default-clause-put : goal.returns-in_default-clause-put
returns-in_default-clause-put g c tells =
    chain_stops (listed c.args.volume.now (g.B.Bench.held c.args.bench.now) (g.P.Parts.place c.args.parts.now)) c.args.kind c.args.many (option_map further_seen c.args.first)
    c.args.wanted.now c.loop.wanted (option_map further_seen c.loop.next) c.loop.counter (c.loop.invariant.put tells) (ap (option_map further_seen) c.in_default.is)

pub loop-preserved : goal.loop-preserved
loop-preserved g c = record {
  put = λ tells.
      let v : Held → listing.Volume = λ h. listed c.args.volume.now h (g.P.Parts.place c.args.parts.now) in
      let o : Onward = further_seen c.in-Some.further in
      chain_goes_on (v (g.B.Bench.held c.args.bench.now)) c.args.kind c.args.many (option_map further_seen c.args.first) c.args.wanted.now c.loop.wanted c.put_extent.new.wanted
      (option_map further_seen c.loop.next) (option_map further_seen c.in_ok-next.next) o c.loop.counter (c.loop.invariant.put tells) c.loop-test.true
      (ap (option_map further_seen) c.in-Some.is)
      (subst (λ (h : Held). PutsOf (v h) c.loop.wanted c.put_extent.new.wanted (extents_left (v h) c.args.kind (o ∷ []))) c.loop.invariant.held (c.in_ok-next.ensures.put tells))
      (c.in_ok-next.ensures.onward tells ∙ ap (λ h. onward o.left (descriptors_in (v h) c.args.kind o.next)) c.loop.invariant.held);
  writable = c.in_ok-next.ensures.writable;
  room = c.in_ok-next.ensures.room ∙ c.loop.invariant.room;
  files = c.in_ok-next.ensures.reads.files ∙ c.loop.invariant.files;
  held = c.in_ok-next.ensures.reads.held ∙ c.loop.invariant.held;
  calm = c.in_ok-next.ensures.reads.calm ∙ c.loop.invariant.calm;
}

pub returns-clause-put : goal.returns-clause-put
returns-clause-put g c tells =
    chain_ends (listed c.args.volume.now (g.B.Bench.held c.args.bench.now) (g.P.Parts.place c.args.parts.now)) c.args.kind c.args.many (option_map further_seen c.args.first)
    c.args.wanted.now c.loop.wanted (option_map further_seen c.loop.next) c.loop.counter (c.loop.invariant.put tells) (omega (arith, c.loop-test.false))
