use Rattle.std.proofs.Common.{◌∙◌, ◌++◌, List, ap, append-nil, subst, sym}
use Rattle.udf_outside.specs.Sectors.{disk_of}
use Rattle.udf_outside.specs.Stops.{Held, bytes_of}
use Rattle.udf_outside.specs.declared.bench.Role.TheVariants.{Image}
use Rattle.udf_rules_model.specs.Recognition.{wanted_digit}
use Rattle.udf_rules.specs.declared.finding.Finding.{Finding}
use Rattle.udf_rules.specs.Slots.{recognition_by}
use Rattle.udf_rules.specs.Structures.{AreRead, digit_in, is_sequence_of}
use Rattle.udf_rules.proofs.Recognising.{findings_are, none_bound, none_broken, one_broken}
use Rattle.udf_rules.proofs.recognition.check_recognition.Goals as goal

pub returns-then-not-branch-clause-found : goal.returns-then-not-branch-clause-found
returns-then-not-branch-clause-found g c = λ tells.
    let opened = c.args.opened.now in
    let disk = disk_of opened.volume.size (g.B.Bench.held c.args.bench.now) in
    sym (append-nil c.args.findings.now)
    ∙ ap (λ (l : List Finding). c.args.findings.now ++ l)
    (none_bound (recognition_by opened disk) (disk opened.volume.pd) (sym (c.in_ok-is_bound.ensures.bound tells) ∙ c.if-not-branch.true)
    ∙ findings_are (bytes_of Image (g.B.Bench.held c.args.bench.now)) opened (c.requires.opened tells))

pub returns-then-is_sequence-clause-found : goal.returns-then-is_sequence-clause-found
returns-then-is_sequence-clause-found g c = λ tells.
    let opened = c.args.opened.now in
    let disk = disk_of opened.volume.size (g.B.Bench.held c.args.bench.now) in
    let xs = c.in_ok-structures.structures.items in
    let read = subst (λ (h : Held). AreRead (recognition_by opened (disk_of opened.volume.size h)) xs) c.in_ok-is_bound.ensures.reads.held (c.in_ok-structures.ensures.read tells) in
    sym (append-nil c.args.findings.now)
    ∙ ap (λ (l : List Finding). c.args.findings.now ++ l)
    (none_broken (recognition_by opened disk) (disk opened.volume.pd) xs read
    (ap is_sequence_of (sym c.deref-3.ensures.value) ∙ sym c.is_sequence.ensures ∙ c.if-is_sequence.true)
    ∙ findings_are (bytes_of Image (g.B.Bench.held c.args.bench.now)) opened (c.requires.opened tells))

pub returns-clause-found : goal.returns-clause-found
returns-clause-found g c = λ tells.
    let opened = c.args.opened.now in
    let size = opened.volume.size in
    let disk = disk_of size (g.B.Bench.held c.args.bench.now) in
    let xs = c.in_ok-structures.structures.items in
    let read = subst (λ (h : Held). AreRead (recognition_by opened (disk_of size h)) xs) c.in_ok-is_bound.ensures.reads.held (c.in_ok-structures.ensures.read tells) in
    let block = c.in_ok-read_block.ensures.block tells ∙ ap (λ h. disk_of size h opened.volume.pd) (c.in_ok-structures.ensures.reads.held ∙ c.in_ok-is_bound.ensures.reads.held) in
    c.in_ok-push.ensures.ok
    ∙ ap (λ (l : List Finding). c.args.findings.now ++ l)
    (one_broken (recognition_by opened disk) (disk opened.volume.pd) xs read _ _
    (sym (c.in_ok-is_bound.ensures.bound tells) ∙ c.if-not-branch.false)
    (ap is_sequence_of (sym c.deref-3.ensures.value) ∙ sym c.is_sequence.ensures ∙ c.if-is_sequence.false)
    (c.first_digit.ensures ∙ ap digit_in c.deref-4.ensures.value)
    (c.digit.ensures ∙ c.edition_of.ensures ∙ ap wanted_digit block)
    ∙ findings_are (bytes_of Image (g.B.Bench.held c.args.bench.now)) opened (c.requires.opened tells))
