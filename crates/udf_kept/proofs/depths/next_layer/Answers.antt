use Rattle.std.proofs.Common.{[], ℕ, List, arith, sym, subst, take}
use Rattle.std.specs.List.{flat_map}
use Rattle.std.proofs.lemmas.List.{take_all}
use Rattle.udf_kept.specs.Depths.{IsReached, edges}
use Rattle.udf_kept.proofs.Layering.{flat_more, reached_none}
use Rattle.udf_kept.proofs.depths.next_layer.Goals as goal

pub loop-entry-init : goal.loop-entry-init
loop-entry-init c = subst (IsReached c.args.depths.now [] c.args.depth c.args.depths.now) (sym c.new-next.ensures.items) (reached_none c.args.depths.now c.args.depth)

pub loop-entry-preserved : goal.loop-entry-preserved
loop-entry-preserved c =
    let xs : List ℕ = c.args.layer.now in
    let i : ℕ = c.loop-entry.entry-index in
    subst (λ (ts : List ℕ). IsReached c.args.depths.now ts c.args.depth c.reach_from.new.depths c.reach_from.new.layer.items)
    (flat_more (edges c.args.least c.args.selected.now) [] xs i 0 c.loop-entry-test.true)
    (c.in_ok-reach_from.ensures c.args.depths.now (flat_map (edges c.args.least c.args.selected.now) (take i xs)) c.loop-entry.invariant)

pub returns : goal.returns
returns c =
    subst (λ (xs : List ℕ). IsReached c.args.depths.now (flat_map (edges c.args.least c.args.selected.now) xs) c.args.depth c.loop-entry.depths c.loop-entry.next.items)
    (take_all c.loop-entry.entry-index c.args.layer.now (omega (arith, c.loop-entry-test.false)))
    c.loop-entry.invariant
