use Rattle.std.proofs.Common.{ap, ◌∙◌, ◌++◌}
use Rattle.udf_rules.proofs.Reported.{sequences_from}
use Rattle.udf_rules.proofs.sequences.check_sequences.Goals as goal

pub returns-clause-found : goal.returns-clause-found
returns-clause-found g c = λ tells.
    c.in_ok-report_sequences.ensures
    ∙ ap (λ l. c.args.findings.now ++ l)
    (sequences_from c.args.volume.now _ c.in_ok-verdict.verdict (c.in_ok-verdict.ensures.verdict tells))
