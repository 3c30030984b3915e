use Rattle.std.proofs.Common.{◌≡◌, suc, ◌≤◌, ◌+◌, arith, length, eqb-true, sym, ◌∙◌, subst}
use Rattle.std.proofs.lemmas.Bool.{eqb-false}
use Rattle.udf_tree.specs.Rise.{HasClimbed}
use Rattle.udf_tree.proofs.Arriving.{climbed_begins, climbed_more, climbed_out, climbed_up}
use Rattle.udf_tree.proofs.climb.steps_up.Goals as goal

pub loop-steps-init : goal.loop-steps-init
loop-steps-init c = record { climbed = λ f v are root a there. climbed_begins f v c.args.nodes.now are a c.args.id.0 there }

pub returns-then-eq : goal.returns-then-eq
returns-then-eq c f v are root a there =
    climbed_up f v c.args.nodes.now are c.args.root root a c.loop-steps.at c.loop-steps.steps (c.loop-steps.invariant.climbed f v are root a there)
    (eqb-true c.loop-steps.at.0 c.args.root.0 (sym c.eq.ensures ∙ c.if-eq.true))

pub loop-steps-preserved : goal.loop-steps-preserved
loop-steps-preserved c = record {
  climbed = λ f v are root a there.
      let next : suc c.loop-steps.steps ≡ c.loop-steps.steps + 1 = omega arith in
      subst (HasClimbed f v c.args.nodes.now a c.above-at.result.0) next
      (climbed_more f v c.args.nodes.now are c.args.root root a c.loop-steps.at c.above-at.result c.loop-steps.steps (c.loop-steps.invariant.climbed f v are root a there)
      (eqb-false c.loop-steps.at.0 c.args.root.0 (sym c.eq.ensures ∙ c.if-eq.false)) c.above-at.ensures);
}

pub returns : goal.returns
returns c f v are root a there =
    let last = c.loop-steps-test.false in
    let many : length c.args.nodes.now ≤ c.loop-steps.steps = omega (arith, last) in
    absurd (climbed_out f v c.args.nodes.now are c.args.root root a c.args.id.0 c.loop-steps.at.0 c.loop-steps.steps there (c.loop-steps.invariant.climbed f v are root a there) many)
