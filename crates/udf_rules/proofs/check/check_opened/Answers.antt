use Rattle.std.proofs.Common.{ap, ◌∙◌, List, ◌++◌, map}
use Rattle.udf_outside.specs.Stops.{Held, bytes_of}
use Rattle.udf_outside.specs.declared.bench.Role.TheVariants.{Image}
use Rattle.udf_rules.specs.declared.finding.Finding.{Finding}
use Rattle.udf_rules.specs.Findings.{finding_of, findings_in}
use Rattle.udf_rules_model.specs.Findings.{before_volume}
use Rattle.udf_rules.proofs.check.check_opened.Goals as goal

pub returns-clause-found : goal.returns-clause-found
returns-clause-found g c = λ tells.
    let image = bytes_of Image (g.B.Bench.held c.args.bench.now) in
    let volume = c.args.opened.now.volume in
    c.in_ok-add_volume.ensures.found tells
    ∙ ap (λ (h : Held). c.check_recognition.new.findings ++ findings_in volume.size (bytes_of Image h)) c.in_ok-check_recognition.ensures.reads.held
    ∙ ap (λ (l : List Finding). l ++ findings_in volume.size image)
    (c.in_ok-check_recognition.ensures.found tells ∙ ap (λ (l : List Finding). l ++ map finding_of (before_volume volume image)) c.none-findings.ensures)
