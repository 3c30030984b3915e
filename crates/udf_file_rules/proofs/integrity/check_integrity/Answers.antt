use Rattle.std.proofs.Common.{◌∙◌, ◌++◌, ℕ, List, append-nil, ap, map, refl, subst, sym}
use Rattle.std.specs.Prelude.{Ok}
use Rattle.std.proofs.lemmas.Bool.{ne_eqb}
use Rattle.udf_rules.specs.Findings.{finding_of}
use Rattle.udf_rules.specs.declared.finding.Finding.{Finding}
use Rattle.udf_rules_model.specs.Integrity.{integrity_findings, prevailing_integrity}
use Rattle.udf_file_rules.specs.Right.{IsRight, Prevails}
use Rattle.udf_file_rules.proofs.Judging.{unbound}
use Rattle.udf_file_rules.proofs.integrity.check_integrity.Goals as goal

pub returns-then-volume-eq0-clause-found : goal.returns-then-volume-eq0-clause-found
returns-then-volume-eq0-clause-found g c = λ tells f v told image known.
    let volume = c.args.volume.now in
    sym (append-nil c.args.findings.now)
    ∙ ap (λ (l : List Finding). c.args.findings.now ++ l) (unbound f v volume.length volume.bitmap volume.integrity c.if-volume-eq0.true)

pub returns-clause-found : goal.returns-clause-found
returns-clause-found g c = λ tells f v told image known.
    let volume = c.args.volume.now in
    let right = c.right_of-right.result in
    let blocks = c.right_of-right.ensures.blocks in
    let is = subst (λ (n : ℕ). IsRight f v n volume.bitmap right) (sym blocks) (c.right_of-right.ensures.right f v told known) in
    let prevails : Prevails v volume.integrity volume.integrity.start c.in_ok-prevailing.prevailing c.prevailing_descriptor.new.block = record {
      binds = ne_eqb volume.integrity.length 0 c.if-volume-eq0.false;
      begins = refl;
      prevails =
          c.in_ok-prevailing.ensures.prevails tells
          ∙ sym (ap (λ n. prevailing_integrity n v.disk volume.integrity) image.size ∙ ap (λ (d : ℕ → List ℕ). prevailing_integrity volume.size d volume.integrity) image.disk);
      there = λ sector e. c.in_ok-prevailing.ensures.block tells sector (ap Ok e) ∙ sym (ap (λ (d : ℕ → List ℕ). d sector) image.disk);
    } in
    c.in_ok-add.ensures
    ∙ ap (λ (l : List Finding). c.args.findings.now ++ l)
    (c.judge-found.ensures f v volume.bitmap volume.integrity is prevails
    ∙ ap (λ (n : ℕ). map finding_of (integrity_findings f v n volume.bitmap volume.integrity)) blocks)
