use Rattle.std.proofs.Common.{◌≡◌, ◌+◌, ℕ, List, Bool, true, false, Option, arith, sym, subst, take, Vec, Global}
use Rattle.std.proofs.lemmas.List.{append-nil, take_all}
use Rattle.udf_kept.specs.Depths.{IsReached, starts_in}
use Rattle.udf_kept.proofs.Layering.{starts_step, starts_none}
use Rattle.udf_kept.proofs.depths.reach_starts.Goals as goal
use Rattle.udf_kept.proofs.depths.reach_starts.Goals.{then-is_start+in_ok-reach, else-is_start}

pub loop-entry-init : goal.loop-entry-init
loop-entry-init c old h = subst (λ (ts : List ℕ). IsReached old ts 0 c.args.depths.now c.args.layer.now.items) starts_none h

pub loop-entry-preserved : goal.loop-entry-preserved
loop-entry-preserved c old h =
    let bs : List Bool = c.args.starts.now in
    let i : ℕ = c.loop-entry.entry in
    let inv = c.loop-entry.invariant old h in
    elim c.if-is_start.branch [
      | then-is_start+in_ok-reach w ↦
          along c.if-is_start.depths w.reach.new.depths c.if-is_start.layer w.reach.new.layer w.depths-is w.layer-is
          (starts_step old bs i true w.reach.new.depths w.reach.new.layer.items c.loop-entry-test.true w.if-is_start.true (w.in_ok-reach.ensures old (starts_in (take i bs)) inv))
      | else-is_start w ↦
          along c.if-is_start.depths c.loop-entry.depths c.if-is_start.layer c.loop-entry.layer w.depths-is w.layer-is
          (starts_step old bs i false c.loop-entry.depths c.loop-entry.layer.items c.loop-entry-test.true w.if-is_start.false
          (subst (λ (ts : List ℕ). IsReached old ts 0 c.loop-entry.depths c.loop-entry.layer.items) (sym (append-nil (starts_in (take i bs)))) inv))
    ]
  where
    along : (ds es : List (Option ℕ)) (v w : Vec ℕ Global) → ds ≡ es → v ≡ w → IsReached old (starts_in (take (c.loop-entry.entry + 1) c.args.starts.now)) 0 es w.items
        → IsReached old (starts_in (take (c.loop-entry.entry + 1) c.args.starts.now)) 0 ds v.items
    along ds es v w d e h =
        subst (λ (x : List (Option ℕ)). IsReached old (starts_in (take (c.loop-entry.entry + 1) c.args.starts.now)) 0 x v.items) (sym d)
        (subst (λ (x : Vec ℕ Global). IsReached old (starts_in (take (c.loop-entry.entry + 1) c.args.starts.now)) 0 es x.items) (sym e) h)

pub returns : goal.returns
returns c old h =
    subst (λ (bs : List Bool). IsReached old (starts_in bs) 0 c.loop-entry.depths c.loop-entry.layer.items)
    (take_all c.loop-entry.entry c.args.starts.now (omega arith))
    (c.loop-entry.invariant old h)
