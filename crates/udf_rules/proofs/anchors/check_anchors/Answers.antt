use Rattle.std.proofs.Common.{ap, ◌∙◌, ◌++◌}
use Rattle.udf_rules.proofs.Reported.{fewer, anchors_from}
use Rattle.udf_rules.proofs.anchors.check_anchors.Goals as goal

pub report_anchors-requires : goal.report_anchors-requires
report_anchors-requires g c = fewer c.args.volume.now c.args.layout.now c.in_ok-verdict.verdict c.in_ok-verdict.ensures.places

pub returns-clause-found : goal.returns-clause-found
returns-clause-found g c = λ tells.
    c.in_ok-report_anchors.ensures
    ∙ ap (λ l. c.args.findings.now ++ l)
    (anchors_from c.args.volume.now c.args.layout.now _ c.in_ok-verdict.verdict c.in_ok-verdict.ensures.places (c.in_ok-verdict.ensures.verdict tells))
