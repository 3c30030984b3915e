use Rattle.std.proofs.Common.{◌≡◌, ◌∷◌, ◌++◌, [], ℕ, List, arith, refl, sym, ap, subst, ◌∙◌, length}
use Rattle.std.specs.Map.Iter.{deref_pair}
use Rattle.std.proofs.lemmas.Map.Iter.{rest_all}
use Rattle.udf_outside.specs.Sectors.{disk_of}
use Rattle.udf_outside.specs.Files.{Files}
use Rattle.udf_volume_model.specs.Plans.{planned, ClimbsFrom}
use Rattle.udf_blocks.specs.Planned.{Planned, IsLawful}
use Rattle.udf_blocks.proofs.Growing.{none}
use Rattle.udf_wanted.specs.Kept.{kept}
use Rattle.udf_wanted.specs.Wanted.{differing}
use Rattle.udf_wanted.specs.Writable.{AreWritable}
use Rattle.udf_wanted.proofs.Keeping.{kept_climbs, next_kept}
use Rattle.udf_wanted.proofs.Walking.{next_fits, next_above, next_climbs, next_all, next_added, plan_for, looked_up, fits_image, all_added}
use Rattle.udf_wanted.specs.Writable.{is_writable}
use Rattle.udf_wanted.proofs.plan.plan_wanted.Goals as goal

pub loop-sector-init : goal.loop-sector-init
loop-sector-init g c =
    let gives = c.into_iter-sector-iterator.ensures.into_iter_gives in
    let wanted : kept c.wanted.inside.blocks.entries ≡ c.args.wanted.now = c.wanted.view_is in
    let all : kept c.into_iter-sector-iterator.result ≡ c.args.wanted.now = ap kept gives.0 ∙ wanted in
    let start : c.blank-plan.result.blocks ++ kept c.into_iter-sector-iterator.result ≡ c.args.wanted.now =
    ap (λ (p : Planned). p.blocks ++ kept c.into_iter-sector-iterator.result) c.blank-plan.ensures ∙ all in
    let disk : ℕ → List ℕ = disk_of c.args.volume.now.size (g.B.Bench.held c.args.bench.now) in
    let climbs : ClimbsFrom 0 c.args.wanted.now =
    subst (λ (edits : List (ℕ × List ℕ)). ClimbsFrom 0 edits) wanted (kept_climbs c.wanted.inside.blocks.entries gives.5) in
    record {
      can_next = tt;
      is_finite = tt;
      files = refl;
      held = refl;
      calm = refl;
      sized = ap (λ (p : Planned). p.size) c.blank-plan.ensures;
      lawful = subst (λ (p : Planned). IsLawful p) (sym c.blank-plan.ensures) (none c.args.volume.now.size);
      ascends = climbs;
      climbs = subst (λ (edits : List (ℕ × List ℕ)). ClimbsFrom 0 edits) (sym start) climbs;
      writable = subst (λ (edits : List (ℕ × List ℕ)). AreWritable c.args.volume.now edits) (sym start) c.requires.writable;
      added = λ tells.
          ap (λ (p : Planned). p.blocks ++ differing disk (kept c.into_iter-sector-iterator.result)) c.blank-plan.ensures
          ∙ ap (λ (edits : List (ℕ × List ℕ)). differing disk edits) all;
    }

pub read_block-requires-clause-within : goal.read_block-requires-clause-within
read_block-requires-clause-within g c =
    let e = next_kept c.loop-sector.sector-iterator c.next.new.self c.next.result c.in-Some.sector c.in-Some.after c.in-Some.is c.next.ensures.steps in
    fits_image c.args.volume.now c.loop-sector.plan.blocks (kept c.next.new.self) (kept c.loop-sector.sector-iterator) c.in-Some.sector.now c.in-Some.after.now.items e c.loop-sector.invariant.writable
    (g.B.Bench.files c.args.bench.now).image.size (g.B.Bench.files c.loop-sector.bench).image.size (ap (λ (f : Files). f.image.size) c.loop-sector.invariant.files) c.requires.over.within

pub add_difference-requires-clause-sized : goal.add_difference-requires-clause-sized
add_difference-requires-clause-sized g c =
    let e = next_kept c.loop-sector.sector-iterator c.next.new.self c.next.result c.in-Some.sector c.in-Some.after c.in-Some.is c.next.ensures.steps in
    ap length c.deref.ensures.value
    ∙ (next_fits c.args.volume.now c.loop-sector.plan.blocks (kept c.next.new.self) (kept c.loop-sector.sector-iterator) c.in-Some.sector.now c.in-Some.after.now.items e c.loop-sector.invariant.writable).1
    ∙ sym c.loop-sector.invariant.sized

pub add_difference-requires-clause-above : goal.add_difference-requires-clause-above
add_difference-requires-clause-above g c =
    let e = next_kept c.loop-sector.sector-iterator c.next.new.self c.next.result c.in-Some.sector c.in-Some.after c.in-Some.is c.next.ensures.steps in
    next_above 0 c.in-Some.sector.now c.in-Some.after.now.items c.loop-sector.plan.blocks (kept c.next.new.self)
    (subst (λ (rest : List (ℕ × List ℕ)). ClimbsFrom 0 (c.loop-sector.plan.blocks ++ rest)) e c.loop-sector.invariant.climbs)

pub add_difference-requires-clause-below : goal.add_difference-requires-clause-below
add_difference-requires-clause-below g c =
    let e = next_kept c.loop-sector.sector-iterator c.next.new.self c.next.result c.in-Some.sector c.in-Some.after c.in-Some.is c.next.ensures.steps in
    omega (
      arith,
      c.requires.over.bounded.few,
      (next_fits c.args.volume.now c.loop-sector.plan.blocks (kept c.next.new.self) (kept c.loop-sector.sector-iterator) c.in-Some.sector.now c.in-Some.after.now.items e c.loop-sector.invariant.writable).0,
    )

pub loop-sector-preserved : goal.loop-sector-preserved
loop-sector-preserved g c =
    let e = next_kept c.loop-sector.sector-iterator c.next.new.self c.next.result c.in-Some.sector c.in-Some.after c.in-Some.is c.next.ensures.steps in
    let plan : List (ℕ × List ℕ) = c.loop-sector.plan.blocks in
    let rest : List (ℕ × List ℕ) = kept c.next.new.self in
    let now : List ℕ = c.read_block.new.into in
    let at : ℕ = c.in-Some.sector.now in
    let after : List ℕ = c.in-Some.after.now.items in
    let is : c.add_difference.new.plan.blocks ≡ plan ++ differing (λ _. now) ((at, after) ∷ []) =
    ap (λ (p : Planned). p.blocks) c.in_ok-add_difference.ensures
    ∙ ap (λ b. plan ++ differing (λ _. now) ((at, b) ∷ [])) c.deref.ensures.value in
    record {
      can_next = tt;
      is_finite = tt;
      files = c.in_ok-read_block.ensures.reads.files ∙ c.loop-sector.invariant.files;
      held = c.in_ok-read_block.ensures.reads.held ∙ c.loop-sector.invariant.held;
      calm = c.in_ok-read_block.ensures.reads.calm ∙ c.loop-sector.invariant.calm;
      sized = ap (λ (p : Planned). p.size) c.in_ok-add_difference.ensures ∙ c.loop-sector.invariant.sized;
      lawful = subst (λ (p : Planned). IsLawful p) c.plan-in-loop-sector.view_is c.plan-in-loop-sector.invariant;
      ascends = c.loop-sector.invariant.ascends;
      climbs = next_climbs now at after plan c.add_difference.new.plan.blocks rest is
          (subst (λ (edits : List (ℕ × List ℕ)). ClimbsFrom 0 (plan ++ edits)) e c.loop-sector.invariant.climbs);
      writable = next_all now at after plan c.add_difference.new.plan.blocks rest is (is_writable c.args.volume.now)
          (subst (λ (edits : List (ℕ × List ℕ)). AreWritable c.args.volume.now (plan ++ edits)) e c.loop-sector.invariant.writable);
      added = λ tells.
          let disk : ℕ → List ℕ = disk_of c.args.volume.now.size (g.B.Bench.held c.args.bench.now) in
          next_added now at after plan c.add_difference.new.plan.blocks rest is disk (differing disk c.args.wanted.now)
          (c.in_ok-read_block.ensures.block tells ∙ ap (λ h. disk_of c.args.volume.now.size h at) c.loop-sector.invariant.held)
          (subst (λ (edits : List (ℕ × List ℕ)). plan ++ differing disk edits ≡ differing disk c.args.wanted.now) e (c.loop-sector.invariant.added tells));
    }

pub returns-clause-plan : goal.returns-clause-plan
returns-clause-plan g c = λ tells n.
    let left : kept c.loop-sector.sector-iterator ≡ [] =
    ap kept (rest_all deref_pair c.loop-sector.sector-iterator c.next.new.self c.next.result c.in-None.is c.next.ensures.steps) in
    let disk : ℕ → List ℕ = disk_of c.args.volume.now.size (g.B.Bench.held c.args.bench.now) in
    ap (planned n) (all_added disk c.loop-sector.plan.blocks _ _ left (c.loop-sector.invariant.added tells))
    ∙ looked_up disk n 0 c.args.wanted.now c.loop-sector.invariant.ascends

pub returns-clause-lawful : goal.returns-clause-lawful
returns-clause-lawful g c =
    let left : kept c.loop-sector.sector-iterator ≡ [] =
    ap kept (rest_all deref_pair c.loop-sector.sector-iterator c.next.new.self c.next.result c.in-None.is c.next.ensures.steps) in
    plan_for c.args.volume.now c.loop-sector.plan c.loop-sector.invariant.lawful c.loop-sector.invariant.sized
    (subst (λ (edits : List (ℕ × List ℕ)). AreWritable c.args.volume.now (c.loop-sector.plan.blocks ++ edits)) left c.loop-sector.invariant.writable)
