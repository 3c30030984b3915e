-- The paths of an image that breaks no rule.
use Rattle.std.proofs.Common.{◌≡◌, ℕ, ◌&&◌, true, List, Some, Result, sym, ap, ◌∙◌, subst}
use Rattle.std.proofs.lemmas.Bool.{and_parts}
use Rattle.udf_field.specs.declared.address.Addr.{Addr}
use Rattle.udf_model.specs.Bytes.{IsBytes}
use Rattle.udf_model.specs.Image.{block_of}
use Rattle.udf_model.specs.Size.{is_size}
use Rattle.udf_file_model.specs.Listing as listing
use Rattle.udf_tree_model.specs.Frame.{Frame}
use Rattle.udf_volume_model.specs.Opened.{is_volume_unbroken}
use Rattle.udf_layer.specs.declared.missing.Missing.{Missing}
use Rattle.udf_volume.specs.declared.volume.Volume.{Volume}
use Rattle.udf_rules_model.specs.FileRules.{allocation_rule, content_rule, count_rule, identifier_rule, names_rule, targets_rule}
use Rattle.udf_rules_model.specs.Files.{files_in, frame_in}
use Rattle.udf_rules_model.specs.Findings.{files_hold_by, further_rules_hold, recognition_of, space_holds_by}
use Rattle.udf_rules_model.specs.Recognition.{recognition_holds}
use Rattle.udf_mended_rules.proofs.Holder.{no_entry}
use Rattle.udf_mended_image.specs.Accepted.{is_accepted, is_unbroken, mended, unbroken_in}
use Rattle.udf_mended_image.proofs.Accepting.{sized_by, stands}
use Rattle.udf_mended_image.proofs.Stands.{Stands}
use Rattle.udf_mended_image.proofs.Unbroken.{Accepts, accepts}
use Rattle.udf_intact.specs.Images.{IsIntactBy, IsIntactIn, leads_by, leads_in}
use Rattle.udf_intact.specs.Lawful.{IsLawful}
use Rattle.udf_intact.specs.Steps.{Step}
use Rattle.udf_intact.proofs.Images.{volume_there}
use Rattle.udf_intact.proofs.Lawful.{intact_path}

module _ (image after : List ℕ) (volume : Volume) (is : Accepts volume.size image volume) (st : Stands volume.size image after volume) (unbroken : is_unbroken volume.size image ≡ true) where
  abbrev f : Frame
  f = frame_in volume image

  abbrev v : listing.Volume
  v = files_in volume image

  rules : further_rules_hold volume image ≡ true
  unfolding is_unbroken
  rules = (and_parts (is_volume_unbroken volume.size image) (further_rules_hold volume image) (sym (ap (unbroken_in volume.size image) is.opens) ∙ unbroken)).1

  file_rules : files_hold_by f v ≡ true
  unfolding further_rules_hold
  file_rules =
      let p = and_parts (recognition_holds (recognition_of volume image)) (files_hold_by f v && space_holds_by volume f v) rules in
      (and_parts (files_hold_by f v) (space_holds_by volume f v) p.1).0

  lawful : IsLawful f v
  lawful =
      let a = and_parts (targets_rule f v) (allocation_rule f v && (content_rule f v && (names_rule f v && (count_rule f v && identifier_rule f v)))) file_rules in
      let b = and_parts (allocation_rule f v) (content_rule f v && (names_rule f v && (count_rule f v && identifier_rule f v))) a.1 in
      let c = and_parts (content_rule f v) (names_rule f v && (count_rule f v && identifier_rule f v)) b.1 in
      record {
        repairable = st.files.repairable;
        set = no_entry f v (block_of volume.size after) st.files;
        targets = a.0;
        allocation = b.0;
        contents = c.0;
        names = (and_parts (names_rule f v) (count_rule f v && identifier_rule f v) c.1).0;
      }

  paths_there : (steps : List Step) (a : Addr) → leads_in volume.size image steps ≡ Some a → IsIntactIn volume.size image steps
  paths_there steps a e =
      subst (λ (r : Result Volume Missing). IsIntactBy image steps r) (sym is.opens)
      (intact_path f v lawful steps a (sym (ap (leads_by image steps) is.opens) ∙ e))

-- each of them is one that no damage touches
pub unbroken_paths : (size : ℕ) (image : List ℕ) → is_size size ≡ true → IsBytes image → is_accepted size image ≡ true → is_unbroken size image ≡ true
    → (steps : List Step) (a : Addr) → leads_in size image steps ≡ Some a → IsIntactIn size image steps
unbroken_paths size image sized bytes accepted unbroken steps a e =
    let r = volume_there size image accepted in
    let k = accepts size image r.0 r.1 in
    let P : ℕ → Type 0 = λ n. Accepts n image r.0 → Stands n image (mended size image) r.0 → is_unbroken n image ≡ true → leads_in n image steps ≡ Some a → IsIntactIn n image steps in
    subst P (sized_by size image r.0 k.opens) (λ c st u l. paths_there image (mended size image) r.0 c st u steps a l) k (stands size image r.0 sized bytes r.1) unbroken e
