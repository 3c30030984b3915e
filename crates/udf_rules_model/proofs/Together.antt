-- All rules hold exactly where nothing is found.
use Rattle.std.proofs.Common.{◌≡◌, ℕ, Bool, ◌&&◌, List, ◌++◌, ap, ◌∙◌}
use Rattle.udf_file_model.specs.Listing as listing
use Rattle.udf_model.specs.Image.{block_of}
use Rattle.udf_tree_model.specs.Frame.{Frame}
use Rattle.udf_volume.specs.declared.volume.Volume.{Volume}
use Rattle.udf_rules_model.specs.Bitmap.{bitmap_findings, bitmap_rule}
use Rattle.udf_rules_model.specs.FileRules.{allocation_findings, allocation_rule, content_findings, content_rule, count_findings, count_rule, identifier_findings, identifier_rule, name_findings, names_rule, target_findings, targets_rule}
use Rattle.udf_rules_model.specs.Files.{files_in, frame_in}
use Rattle.udf_rules_model.specs.Findings.{before_volume, files_hold_by, further_rules_hold, of_files, of_files_by, of_space, of_space_by, recognition_of, space_holds_by}
use Rattle.udf_rules_model.specs.Found.{is_nothing}
use Rattle.udf_rules_model.specs.Integrity.{integrity_findings, integrity_holds}
use Rattle.udf_rules_model.specs.Recognition.{recognition_holds}
use Rattle.udf_rules_model.proofs.Nothing.{append_nil}
use Rattle.udf_rules_model.proofs.Ruled.{allocation, bitmap, contents, counts, identifiers, integrity, names, recognition, targets}

-- of two lists one after another there is nothing, where two tests say so of each
both : {A : Type 0} (xs ys : List A) (p q : Bool) → is_nothing xs ≡ p → is_nothing ys ≡ q → is_nothing (xs ++ ys) ≡ (p && q)
both xs ys p q h k = append_nil xs ys ∙ ap (λ b. b && is_nothing ys) h ∙ ap (λ b. p && b) k

files_there : (f : Frame) (v : listing.Volume) → is_nothing (of_files_by f v) ≡ files_hold_by f v
files_there f v =
    both (target_findings f v) _ _ _ (targets f v)
    (both (allocation_findings f v) _ _ _ (allocation f v)
    (both (content_findings f v) _ _ _ (contents f v)
    (both (name_findings f v) _ _ _ (names f v)
    (both (count_findings f v) (identifier_findings f v) _ _ (counts f v) (identifiers f v)))))

space_there : (volume : Volume) (f : Frame) (v : listing.Volume) → is_nothing (of_space_by volume f v) ≡ space_holds_by volume f v
space_there volume f v =
    both (bitmap_findings f v volume.length volume.bitmap) (integrity_findings f v volume.length volume.bitmap volume.integrity) _ _
    (bitmap f v volume.length volume.bitmap) (integrity f v volume.length volume.bitmap volume.integrity)

pub all_rules : (volume : Volume) (image : List ℕ)
    → (is_nothing (before_volume volume image) && (is_nothing (of_files volume image) && is_nothing (of_space volume image))) ≡ further_rules_hold volume image
unfolding before_volume of_files of_space further_rules_hold
all_rules volume image =
    ap (λ b. b && (is_nothing (of_files volume image) && is_nothing (of_space volume image))) (recognition (recognition_of volume image) (block_of volume.size image volume.pd))
    ∙ ap (λ b. recognition_holds (recognition_of volume image) && (b && is_nothing (of_space volume image))) (files_there (frame_in volume image) (files_in volume image))
    ∙ ap (λ b. recognition_holds (recognition_of volume image) && (files_hold_by (frame_in volume image) (files_in volume image) && b))
    (space_there volume (frame_in volume image) (files_in volume image))
