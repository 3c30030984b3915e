use Rattle.std.proofs.Common.{◌≡◌, ◌++◌, take, map, length, ◌-◌}
use Rattle.udf_rules.specs.declared.finding.Place.TheVariants.{Sector}
use Rattle.udf_rules.proofs.anchors.report_anchors.Given as goal

abbrev pub invariant-loop-place : goal.invariant-loop-place
invariant-loop-place l = l.findings ≡ l.initial.findings
    ++ map (λ place. record { rule = 2; place = Sector place; first = length l.verdict.eligible.items - length l.verdict.bad.items; second = length l.verdict.eligible.items })
    (take l.place-index l.verdict.bad.items)
