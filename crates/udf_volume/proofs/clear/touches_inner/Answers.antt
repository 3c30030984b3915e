use Rattle.std.proofs.Common.{◌≡◌, arith, rules, sym, true, ◌∙◌}
use Rattle.udf_volume.proofs.Cleared.{none_inner, one_inner}
use Rattle.udf_volume.proofs.clear.touches_inner.Goals as goal

pub returns-then-inner : goal.returns-then-inner
returns-then-inner g c =
    let on : c.inner.result ≡ true = search rules in
    sym (one_inner (g.P.Parts.inner c.args.parts.now) c.args.extent.at c.args.extent.blocks c.loop-i.i (omega arith) (sym c.inner.ensures ∙ on))

pub returns : goal.returns
returns g c =
    sym (none_inner (g.P.Parts.inner c.args.parts.now) c.args.extent.at c.args.extent.blocks (λ i h. c.loop-i.invariant i (omega arith)))
