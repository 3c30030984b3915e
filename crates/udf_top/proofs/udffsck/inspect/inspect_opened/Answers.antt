use Rattle.std.proofs.Common.{◌≡◌, ◌++◌, arith, List, Err, Ok, false, sym, ap, ◌∙◌, subst, rules}
use Rattle.udf_outside.specs.Causes.{Rose}
use Rattle.udf_outside.specs.Stops.{Held, bytes_of}
use Rattle.udf_outside.specs.declared.bench.Role.TheVariants.{Image}
use Rattle.udf_layer.specs.Causes.{layer_stop}
use Rattle.udf_rules.specs.declared.finding.Finding.{Finding}
use Rattle.udf_file_rules.specs.Checked.{files_checked, volume_checked}
use Rattle.udf_volume.specs.Taken.{IsOpenOver}
use Rattle.udf_volume.specs.declared.volume.Volume.{Volume}
use Rattle.udf_files.specs.Files.{FindsFiles}
use Rattle.udf_mended_image.specs.Accepted.{is_kept_from_writing}
use Rattle.udf_repair_plan.specs.Draft.{IsDraftOf}
use Rattle.udf_top.specs.Inspecting.{InspectsVolume}
use Rattle.udf_top.proofs.Examining.{as_stopped, fault_of, on_stopped}
use Rattle.udf_top.proofs.Inspecting.{kept_is, not_found, stopped, writable}
use Rattle.udf_top.proofs.udffsck.inspect.inspect_opened.Goals as goal

pub files_of-requires-clause-over : goal.files_of-requires-clause-over
files_of-requires-clause-over g c =
    subst (IsOpenOver c.args.opened) (sym (c.draft_volume.ensures.reads.files ∙ c.check_opened.ensures.reads.files)) c.requires.over

pub returns-in_err-files-clause-answers : goal.returns-in_err-files-clause-answers
returns-in_err-files-clause-answers g c tells =
    let image = bytes_of Image (g.B.Bench.held c.args.bench.now) in
    let held = c.draft_volume.ensures.reads.held ∙ c.check_opened.ensures.reads.held in
    let is : c.from_residual-in_err-files.result ≡ Err c.in_err-files.field-0.0 = search rules in
    subst (InspectsVolume c.args.opened.volume image) (sym is)
    (not_found c.args.opened.volume image c.in_err-files.field-0.0
    (subst (λ (h : Held). FindsFiles c.args.opened.volume (bytes_of Image h) (Err c.in_err-files.field-0.0)) held (c.in_err-files.ensures.answers tells)))

pub returns-in_err-findings-clause-answers : goal.returns-in_err-findings-clause-answers
returns-in_err-findings-clause-answers g c tells =
    let is : c.from_residual-in_err-findings.result ≡ Err (layer_stop c.in_err-findings.field-0.0) = as_stopped c.from_residual-in_err-findings.result c.in_err-findings.field-0.0 c.from_residual-in_err-findings.ensures.1 in
    subst (InspectsVolume c.args.opened.volume (bytes_of Image (g.B.Bench.held c.args.bench.now))) (sym is)
    (stopped c.args.opened.volume (bytes_of Image (g.B.Bench.held c.args.bench.now)) c.in_err-findings.field-0.0)

pub returns-in_err-findings-clause-reads : goal.returns-in_err-findings-clause-reads
returns-in_err-findings-clause-reads g c =
    let first = c.check_opened.ensures.reads.later in
    let second = c.draft_volume.ensures.reads.later in
    let third = c.files_of.ensures.reads.later in
    let fourth = c.check_files.ensures.reads.later in
    record {
      files = c.check_files.ensures.reads.files ∙ c.files_of.ensures.reads.files ∙ c.draft_volume.ensures.reads.files ∙ c.check_opened.ensures.reads.files;
      held = c.check_files.ensures.reads.held ∙ c.files_of.ensures.reads.held ∙ c.draft_volume.ensures.reads.held ∙ c.check_opened.ensures.reads.held;
      later = omega (arith, first, second, third, fourth);
      cause = λ e. let rose : Rose (g.B.Bench.faults c.files_of.new.bench) (g.B.Bench.faults c.check_files.new.bench) = c.in_err-findings.ensures.reads.cause (fault_of c.from_residual-in_err-findings.result c.in_err-findings.field-0.0 c.from_residual-in_err-findings.ensures.1 e) in omega (arith, rose, first, second, third);
      calm = on_stopped c.from_residual-in_err-findings.result c.in_err-findings.field-0.0 c.from_residual-in_err-findings.ensures.1 _;
    }

pub returns-clause-answers : goal.returns-clause-answers
unfolding volume_checked
returns-clause-answers g c tells =
    let volume = c.args.opened.volume in
    let image = bytes_of Image (g.B.Bench.held c.args.bench.now) in
    let first : List Finding = c.in_ok-of_volume.of_volume in
    let before = c.draft_volume.ensures.reads.held ∙ c.check_opened.ensures.reads.held in
    let held = c.files_of.ensures.reads.held ∙ before in
    let found = subst (λ (h : Held). FindsFiles volume (bytes_of Image h) (Ok c.in_ok-files.files)) before (c.in_ok-files.ensures.answers tells) in
    let free : is_kept_from_writing volume image ≡ false =
    sym (kept_is volume image c.in_ok-files.files c.in_ok-files.ensures.over.volume_is found.1) ∙ sym c.is_kept_from_writing.ensures ∙ c.if-is_kept_from_writing.false in
    record {
      accepted = writable volume image found.0 free;
      files = found.1;
      findings = c.in_ok-findings.ensures.found tells
          ∙ ap (λ (v : Volume). first ++ files_checked v (bytes_of Image (g.B.Bench.held c.files_of.new.bench))) c.in_ok-files.ensures.over.volume_is
          ∙ ap (λ (h : Held). first ++ files_checked volume (bytes_of Image h)) held
          ∙ ap (λ (l : List Finding). l ++ files_checked volume image) (c.in_ok-of_volume.ensures.found tells);
      draft = subst (λ (h : Held). IsDraftOf volume (bytes_of Image h) c.in_ok-draft.draft) c.check_opened.ensures.reads.held (c.in_ok-draft.ensures.drafted tells);
    }
