-- What is found of all rules one after another.
use Rattle.std.proofs.Common.{◌≡◌, List, ◌++◌, map, sym, ap, ◌∙◌, append_assoc}
use Rattle.udf_file_model.specs.Listing.{Volume}
use Rattle.udf_tree_model.specs.Frame.{Frame}
use Rattle.udf_tree.specs.Survey.{View}
use Rattle.udf_volume.specs.declared.site.FileSet.{FileSet}
use Rattle.udf_volume_model.specs.Rules as model
use Rattle.udf_rules.specs.Findings.{finding_of}
use Rattle.udf_rules.specs.declared.finding.Finding.{Finding}
use Rattle.udf_rules_model.specs.FileRules.{allocation_findings, content_findings, count_findings, identifier_findings, name_findings, target_findings}
use Rattle.udf_rules_model.specs.Findings.{of_files_by}
use Rattle.udf_file_rules.specs.Seen.{allocation_along, counts_along, identifiers_along}
use Rattle.udf_file_rules.specs.SeenContents.{contents_along}
use Rattle.udf_file_rules.specs.SeenLinks.{names_along, targets_along}
use Rattle.udf_file_rules.specs.Surveyed.{AreSurveyed}
use Rattle.udf_file_rules.proofs.Along.{map_append}
use Rattle.udf_file_rules.proofs.Told.{allocation_told, counts_told}
use Rattle.udf_file_rules.proofs.ToldContents.{contents_told, identifiers_told}
use Rattle.udf_file_rules.proofs.ToldLinks.{names_told}
use Rattle.udf_file_rules.proofs.ToldTargets.{targets_told}

six : (old t a c n k i : List Finding) → (((((old ++ t) ++ a) ++ c) ++ n) ++ k) ++ i ≡ old ++ (t ++ (a ++ (c ++ (n ++ (k ++ i)))))
six old t a c n k i =
    append_assoc ((((old ++ t) ++ a) ++ c) ++ n) k i
    ∙ append_assoc (((old ++ t) ++ a) ++ c) n (k ++ i)
    ∙ append_assoc ((old ++ t) ++ a) c (n ++ (k ++ i))
    ∙ append_assoc (old ++ t) a (c ++ (n ++ (k ++ i)))
    ∙ append_assoc old t (a ++ (c ++ (n ++ (k ++ i))))

-- two lists, each as found, are found one after the other
both : (xs ys : List Finding) (ms ns : List model.Finding) → xs ≡ map finding_of ms → ys ≡ map finding_of ns → xs ++ ys ≡ map finding_of (ms ++ ns)
both xs ys ms ns h k =
    ap (λ (l : List Finding). l ++ ys) h ∙ ap (λ (l : List Finding). map finding_of ms ++ l) k ∙ sym (map_append finding_of ms ns)

-- what is found of the kept entries, behind what was found before
pub entries_found : (f : Frame) (v : Volume) (set : FileSet) (x : View) (old : List Finding) → AreSurveyed f v set x
    → (((((old ++ targets_along x set.at set.system) ++ allocation_along x) ++ contents_along x) ++ names_along x) ++ counts_along x) ++ identifiers_along x
    ≡ old ++ map finding_of (of_files_by f v)
entries_found f v set x old k =
    six old (targets_along x set.at set.system) (allocation_along x) (contents_along x) (names_along x) (counts_along x) (identifiers_along x)
    ∙ ap (λ (l : List Finding). old ++ l)
    (both (targets_along x set.at set.system) _ (target_findings f v) _ (targets_told f v x k.some k.starts k.survey k.placed set k.frame)
    (both (allocation_along x) _ (allocation_findings f v) _ (allocation_told f v x k.some k.starts k.survey)
    (both (contents_along x) _ (content_findings f v) _ (contents_told f v x k.some k.starts k.survey k.holds)
    (both (names_along x) _ (name_findings f v) _ (names_told f v x k.some k.starts k.holds k.survey)
    (both (counts_along x) (identifiers_along x) (count_findings f v) (identifier_findings f v) (counts_told f v x k.some k.starts k.survey) (identifiers_told f v x k.some k.starts k.survey))))))
