use Rattle.std.proofs.Common.{◌≡◌, ◌++◌, List, ap, ◌∙◌}
use Rattle.udf_rules.specs.declared.finding.Finding.{Finding}
use Rattle.udf_file_rules.specs.Seen.{allocation_along, counts_along, identifiers_along}
use Rattle.udf_file_rules.specs.SeenContents.{contents_along}
use Rattle.udf_file_rules.specs.SeenLinks.{names_along, targets_along}
use Rattle.udf_file_rules.proofs.All.{entries_found}
use Rattle.udf_file_rules.proofs.check.check_entries.Goals as goal

pub returns : goal.returns
returns c f v k =
    let x = c.args.survey.now in
    let set = c.args.set.now in
    let old : List Finding = c.args.findings.now in
    c.in_ok-check_identifiers.ensures
    ∙ ap (λ (l : List Finding). l ++ identifiers_along x) (c.in_ok-check_link_counts.ensures
    ∙ ap (λ (l : List Finding). l ++ counts_along x) (c.in_ok-check_names.ensures
    ∙ ap (λ (l : List Finding). l ++ names_along x) (c.in_ok-check_contents.ensures
    ∙ ap (λ (l : List Finding). l ++ contents_along x) (c.in_ok-check_allocation.ensures
    ∙ ap (λ (l : List Finding). l ++ allocation_along x) c.in_ok-check_targets.ensures))))
    ∙ entries_found f v set x old k
