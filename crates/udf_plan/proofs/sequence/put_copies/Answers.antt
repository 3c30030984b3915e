use Rattle.std.proofs.Common.{◌+◌, ◌<◌, ◌∷◌, ◌++◌, [], ℕ, List, arith, rules, refl, subst, ◌∙◌}
use Rattle.udf_model.specs.Tag.{relocated}
use Rattle.udf_outside.specs.Stops.{Held}
use Rattle.udf_outside.specs.Sectors.{disk_of}
use Rattle.udf_plan.specs.Stated.{moved}
use Rattle.udf_wanted.specs.Wanted.{LookAlike}
use Rattle.udf_wanted.proofs.Looking.{both_are}
use Rattle.udf_plan.proofs.Copying.{none_moved, one_moved}
use Rattle.udf_wanted.proofs.Walking.{free_inside}
use Rattle.udf_plan.proofs.sequence.put_copies.Goals as goal

pub loop-i-init : goal.loop-i-init
loop-i-init g c = record {
  files = refl;
  held = refl;
  calm = refl;
  writable = c.requires.writable;
  put = λ tells. none_moved _ c.args.from c.args.to c.args.wanted.now;
}

pub overflow_add-to : goal.overflow_add-to
overflow_add-to g c =
    let lt : c.loop-i.i < c.args.volume.now.count = search rules in
    omega (
      arith,
      c.requires.over.bounded.few,
      free_inside c.args.volume.now (c.args.to + c.loop-i.i) (c.requires.free c.loop-i.i lt),
    )

pub put_copy-requires-clause-free : goal.put_copy-requires-clause-free
put_copy-requires-clause-free g c =
    let lt : c.loop-i.i < c.args.volume.now.count = search rules in
    c.requires.free c.loop-i.i lt

pub loop-i-preserved : goal.loop-i-preserved
loop-i-preserved g c = record {
  files = c.in_ok-put_copy.ensures.reads.files ∙ c.loop-i.invariant.files;
  held = c.in_ok-put_copy.ensures.reads.held ∙ c.loop-i.invariant.held;
  calm = c.in_ok-put_copy.ensures.reads.calm ∙ c.loop-i.invariant.calm;
  writable = c.in_ok-put_copy.ensures.writable;
  put = λ tells.
      let disk : ℕ → List ℕ = disk_of c.args.volume.now.size (g.B.Bench.held c.args.bench.now) in
      let to : ℕ = c.args.to + c.loop-i.i in
      both_are c.args.wanted.now c.loop-i.wanted c.put_copy.new.wanted (moved disk c.args.from c.args.to c.loop-i.i)
      ((to, relocated to (disk (c.args.from + c.loop-i.i))) ∷ []) _ (c.loop-i.invariant.put tells)
      (subst (λ (h : Held). LookAlike c.put_copy.new.wanted (c.loop-i.wanted
      ++ (to, relocated to (disk_of c.args.volume.now.size h (c.args.from + c.loop-i.i))) ∷ [])) c.loop-i.invariant.held
      (c.in_ok-put_copy.ensures.put tells))
      (one_moved disk c.args.from c.args.to c.loop-i.i);
}
