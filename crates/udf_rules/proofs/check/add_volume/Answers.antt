use Rattle.std.proofs.Common.{ap, ◌∙◌, List, ◌++◌, append_assoc}
use Rattle.udf_outside.specs.Stops.{Held, bytes_of}
use Rattle.udf_outside.specs.declared.bench.Role.TheVariants.{Image}
use Rattle.udf_rules.specs.declared.finding.Finding.{Finding}
use Rattle.udf_rules.specs.Reported.{anchors_reported, sequences_reported, tables_reported}
use Rattle.udf_rules.proofs.Reported.{found_all}
use Rattle.udf_rules.proofs.check.add_volume.Goals as goal

pub returns-clause-found : goal.returns-clause-found
returns-clause-found g c = λ tells.
    let image = bytes_of Image (g.B.Bench.held c.args.bench.now) in
    let volume = c.args.opened.now.volume in
    let layout = c.args.opened.now.layout in
    let before : List Finding = c.args.findings.now in
    let anchors = anchors_reported volume layout image in
    let sequences = sequences_reported volume image in
    let tables = tables_reported volume image in
    c.in_ok-check_tables.ensures.found tells
    ∙ ap (λ (h : Held). c.check_sequences.new.findings ++ tables_reported volume (bytes_of Image h))
    (c.in_ok-check_sequences.ensures.reads.held ∙ c.in_ok-check_anchors.ensures.reads.held)
    ∙ ap (λ (l : List Finding). l ++ tables)
    (c.in_ok-check_sequences.ensures.found tells
    ∙ ap (λ (h : Held). c.check_anchors.new.findings ++ sequences_reported volume (bytes_of Image h)) c.in_ok-check_anchors.ensures.reads.held
    ∙ ap (λ (l : List Finding). l ++ sequences) (c.in_ok-check_anchors.ensures.found tells)
    ∙ append_assoc before anchors sequences)
    ∙ append_assoc before (anchors ++ sequences) tables
    ∙ ap (λ (l : List Finding). before ++ l) (append_assoc anchors sequences tables ∙ found_all image c.args.opened.now (c.requires.opened tells))
