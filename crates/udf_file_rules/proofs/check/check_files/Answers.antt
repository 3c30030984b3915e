use Rattle.std.proofs.Common.{◌≡◌, ◌<◌, ℕ, ◌++◌, List, map, sym, ap, ◌∙◌, arith, append_assoc}
use Rattle.udf_outside.specs.Stops.{Held, bytes_of}
use Rattle.udf_outside.specs.declared.bench.Role.TheVariants.{Image}
use Rattle.udf_rules.specs.declared.finding.Finding.{Finding}
use Rattle.udf_rules.specs.Findings.{finding_of}
use Rattle.udf_rules_model.specs.Files.{files_in, frame_in}
use Rattle.udf_rules_model.specs.Findings.{of_files, of_space}
use Rattle.udf_files.proofs.Placed.{has_set}
use Rattle.udf_file_rules.specs.Checked.{files_checked}
use Rattle.udf_file_rules.specs.Surveyed.{AreSurveyed}
use Rattle.udf_file_rules.proofs.Along.{map_append}
use Rattle.udf_file_rules.proofs.check.check_files.Goals as goal

pub returns-clause-found : goal.returns-clause-found
unfolding files_checked of_files
returns-clause-found g c tells =
    let files = c.args.files.now in
    let volume = files.volume in
    let image = bytes_of Image (g.B.Bench.held c.args.bench.now) in
    let told = c.requires.files tells in
    let large = c.requires.over.large in
    let surveyed : AreSurveyed (frame_in volume image) (files_in volume image) files.set files.survey = record {
      some = omega (arith, large);
      frame = has_set volume image files.set told.set_is;
      holds = told.holds_set;
      placed = told.set_placed;
      starts = told.starts;
      survey = told.survey_is;
    } in
    c.in_ok-check_space.ensures.found tells
    ∙ ap (λ (l : List Finding). l ++ map finding_of (of_space volume image)) (c.in_ok-check_entries.ensures (frame_in volume image) (files_in volume image) surveyed)
    ∙ append_assoc c.args.before (map finding_of (of_files volume image)) (map finding_of (of_space volume image))
    ∙ ap (λ (l : List Finding). c.args.before ++ l) (sym (map_append finding_of (of_files volume image) (of_space volume image)))
