use Rattle.std.proofs.Common.{◌++◌, ℕ, List, arith, map, subst, take}
use Rattle.std.proofs.lemmas.List.{take_all}
use Rattle.udf_kept.specs.declared.fitted.Fitted.{Fitted}
use Rattle.udf_kept.specs.FirstLinks.{IsFirst, Told, told_by}
use Rattle.udf_kept.proofs.Parenting.{map_more}
use Rattle.udf_kept.proofs.first_links.take_links.Goals as goal

pub loop-link-preserved : goal.loop-link-preserved
loop-link-preserved c done h =
    let fs : List Fitted = c.args.links.now in
    let i : ℕ = c.loop-link.link-index in
    subst (λ (ts : List Told). IsFirst ts c.take_link.new.first)
    (map_more (told_by c.args.holder c.args.depth c.args.at) done fs i (record { place = 0; to = 0 }) c.loop-link-test.true)
    (c.take_link.ensures (done ++ map (told_by c.args.holder c.args.depth c.args.at) (take i fs)) (c.loop-link.invariant done h))

pub returns : goal.returns
returns c done h =
    subst (λ (fs : List Fitted). IsFirst (done ++ map (told_by c.args.holder c.args.depth c.args.at) fs) c.loop-link.first)
    (take_all c.loop-link.link-index c.args.links.now (omega (arith, c.loop-link-test.false)))
    (c.loop-link.invariant done h)
