use Rattle.std.proofs.Common.{◌≡◌, ◌++◌, arith, List, Ok, Err, Result, IfErr, sym, ap, ◌∙◌, subst, rules}
use Rattle.udf_outside.specs.Causes.{Rose}
use Rattle.udf_outside.specs.Stops.{Held, bytes_of}
use Rattle.udf_outside.specs.declared.bench.Role.TheVariants.{Image}
use Rattle.udf_layer.specs.declared.missing.LayerStop.{LayerStop}
use Rattle.udf_rules.specs.declared.finding.Finding.{Finding}
use Rattle.udf_file_rules.specs.Checked.{files_checked, volume_checked}
use Rattle.udf_volume.specs.Over.{IsOver}
use Rattle.udf_volume.specs.Taken.{IsOpenOver}
use Rattle.udf_volume.specs.declared.volume.Volume.{Volume}
use Rattle.udf_files.specs.Files.{FindsFiles}
use Rattle.udf_top.specs.Udffsck.{ExaminesVolume, RefusesCheck}
use Rattle.udf_top.proofs.Examining.{as_stopped, fault_of, not_found, on_stopped, refuses_nothing, stopped}
use Rattle.udf_top.proofs.udffsck.check.examine_opened.Goals as goal

pub files_of-requires-clause-over : goal.files_of-requires-clause-over
files_of-requires-clause-over g c = subst (IsOpenOver c.args.opened) (sym c.check_opened.ensures.reads.files) c.requires.over

pub returns-in_err-files-clause-answers : goal.returns-in_err-files-clause-answers
returns-in_err-files-clause-answers g c tells =
    let image = bytes_of Image (g.B.Bench.held c.args.bench.now) in
    let is : c.from_residual-in_err-files.result ≡ Err c.in_err-files.field-0.0 = search rules in
    subst (ExaminesVolume c.args.opened.volume image) (sym is)
    (not_found c.args.opened.volume image c.in_err-files.field-0.0
    (subst (λ (h : Held). FindsFiles c.args.opened.volume (bytes_of Image h) (Err c.in_err-files.field-0.0)) c.check_opened.ensures.reads.held (c.in_err-files.ensures.answers tells)))

pub check_files-requires-clause-over : goal.check_files-requires-clause-over
check_files-requires-clause-over g c =
    subst (λ (v : Volume). IsOver v (g.B.Bench.files c.files_of.new.bench)) (sym c.in_ok-files.ensures.over.volume_is)
    (subst (IsOver c.args.opened.volume) (sym (c.files_of.ensures.reads.files ∙ c.check_opened.ensures.reads.files)) c.requires.over.over)

pub returns-in_err-findings-clause-reads : goal.returns-in_err-findings-clause-reads
returns-in_err-findings-clause-reads g c =
    let first = c.check_opened.ensures.reads.later in
    let second = c.files_of.ensures.reads.later in
    let third = c.check_files.ensures.reads.later in
    record {
      files = c.check_files.ensures.reads.files ∙ c.files_of.ensures.reads.files ∙ c.check_opened.ensures.reads.files;
      held = c.check_files.ensures.reads.held ∙ c.files_of.ensures.reads.held ∙ c.check_opened.ensures.reads.held;
      later = omega (arith, first, second, third);
      cause = λ e. let rose : Rose (g.B.Bench.faults c.files_of.new.bench) (g.B.Bench.faults c.check_files.new.bench)
          = c.in_err-findings.ensures.reads.cause (fault_of c.from_residual-in_err-findings.result c.in_err-findings.field-0.0 c.from_residual-in_err-findings.ensures.1 e) in
          omega (arith, rose, first, second);
      calm = on_stopped c.from_residual-in_err-findings.result c.in_err-findings.field-0.0 c.from_residual-in_err-findings.ensures.1 _;
    }

pub returns-clause-answers : goal.returns-clause-answers
unfolding volume_checked
returns-clause-answers g c tells =
    let volume = c.args.opened.volume in
    let image = bytes_of Image (g.B.Bench.held c.args.bench.now) in
    let first : List Finding = c.in_ok-of_volume.of_volume in
    let held = c.files_of.ensures.reads.held ∙ c.check_opened.ensures.reads.held in (
      (subst (λ (h : Held). FindsFiles volume (bytes_of Image h) (Ok c.in_ok-files.files)) c.check_opened.ensures.reads.held (c.in_ok-files.ensures.answers tells)).0,
      c.in_ok-findings.ensures.found tells
          ∙ ap (λ (v : Volume). first ++ files_checked v (bytes_of Image (g.B.Bench.held c.files_of.new.bench))) c.in_ok-files.ensures.over.volume_is
          ∙ ap (λ (h : Held). first ++ files_checked volume (bytes_of Image h)) held
          ∙ ap (λ (l : List Finding). l ++ files_checked volume image) (c.in_ok-of_volume.ensures.found tells),
    )

pub returns-in_err-findings-clause-answers : goal.returns-in_err-findings-clause-answers
returns-in_err-findings-clause-answers g c tells =
    let image = bytes_of Image (g.B.Bench.held c.args.bench.now) in
    subst (ExaminesVolume c.args.opened.volume image)
    (sym (as_stopped c.from_residual-in_err-findings.result c.in_err-findings.field-0.0 c.from_residual-in_err-findings.ensures.1))
    (stopped c.args.opened.volume image c.in_err-findings.field-0.0)

pub returns-in_err-findings-clause-refusal : goal.returns-in_err-findings-clause-refusal
returns-in_err-findings-clause-refusal g c =
    subst (λ (r : Result (List Finding) LayerStop). IfErr r RefusesCheck)
    (sym (as_stopped c.from_residual-in_err-findings.result c.in_err-findings.field-0.0 c.from_residual-in_err-findings.ensures.1))
    (refuses_nothing c.in_err-findings.field-0.0)
