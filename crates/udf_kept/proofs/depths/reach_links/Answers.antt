use Rattle.std.proofs.Common.{◌++◌, ℕ, List, arith, subst, take}
use Rattle.std.specs.List.{flat_map}
use Rattle.std.proofs.lemmas.List.{take_all}
use Rattle.udf_kept.specs.declared.fitted.Fitted.{Fitted}
use Rattle.udf_kept.specs.Depths.{IsReached, target_from}
use Rattle.udf_kept.proofs.Layering.{flat_more}
use Rattle.udf_kept.proofs.depths.reach_links.Goals as goal

pub loop-link-preserved : goal.loop-link-preserved
loop-link-preserved c old done h =
    let xs : List Fitted = c.args.links.now in
    let i : ℕ = c.loop-link.link-index in
    let d : Fitted = record { place = 0; to = 0 } in
    subst (λ (ts : List ℕ). IsReached old ts c.args.depth c.reach_link.new.depths c.reach_link.new.layer.items)
    (flat_more (target_from c.args.least) done xs i d c.loop-link-test.true)
    (c.in_ok-reach_link.ensures old (done ++ flat_map (target_from c.args.least) (take i xs)) (c.loop-link.invariant old done h))

pub returns : goal.returns
returns c old done h =
    subst (λ (xs : List Fitted). IsReached old (done ++ flat_map (target_from c.args.least) xs) c.args.depth c.loop-link.depths c.loop-link.layer.items)
    (take_all c.loop-link.link-index c.args.links.now (omega (arith, c.loop-link-test.false)))
    (c.loop-link.invariant old done h)
