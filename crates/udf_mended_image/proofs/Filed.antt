-- What is known of the files of a disk that has all their mends.
use Rattle.std.proofs.Common.{◌≡◌, ℕ, List, true}
use Rattle.std.proofs.lemmas.Bool.{and_from}
use Rattle.udf_file_model.specs.Listing.{Volume, with_disk}
use Rattle.udf_tree_model.specs.Frame.{Frame}
use Rattle.udf_rules_model.specs.FileRules.{allocation_rule, content_rule, count_rule, identifier_rule, names_rule, targets_rule}
use Rattle.udf_rules_model.specs.Findings.{files_hold_by}
use Rattle.udf_file_mends.specs.FileSet.{frame_after}
use Rattle.udf_mended_rules.specs.AllMends.{HasAllMends}
use Rattle.udf_mended_rules.proofs.Accepted.{accepted}
use Rattle.udf_mended_rules.proofs.Alike.{counts, identifiers}
use Rattle.udf_mended_rules.proofs.Free.{free_same}
use Rattle.udf_mended_rules.proofs.Rules.{allocation, names, targets, whole_contents}
use Rattle.udf_mended_rules.proofs.Space.{counted}
use Rattle.udf_mended_image.proofs.Following.{FileLaws}

module _ (f : Frame) (v : Volume) (disk : ℕ → List ℕ) (has : HasAllMends f v disk) where
  all_rules : files_hold_by (frame_after f v) (with_disk v disk) ≡ true
  all_rules =
      let g = frame_after f v in
      let w = with_disk v disk in
      and_from (targets_rule g w) _ (targets f v disk has) (and_from (allocation_rule g w) _ (allocation f v disk has)
      (and_from (content_rule g w) _ (whole_contents f v disk has) (and_from (names_rule g w) _ (names f v disk has)
      (and_from (count_rule g w) (identifier_rule g w) (counts f v disk has) (identifiers f v disk has)))))

  pub file_laws : FileLaws f v disk
  file_laws = record {
    rules = all_rules;
    accepted = accepted f v disk has;
    free = free_same f v disk has;
    counted = counted f v disk has;
  }
