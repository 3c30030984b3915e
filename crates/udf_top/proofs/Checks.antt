-- Nothing is found on an opened volume exactly where every rule holds on it and on its files.
use Rattle.std.proofs.Common.{◌≡◌, ℕ, List, [], ◌∷◌, ◌++◌, map, refl, sym, ◌∙◌, ap, Bool, true, ◌&&◌, Result, Ok, Err}
use Rattle.std.proofs.lemmas.Bool.{and_parts}
use Rattle.udf_volume_model.specs.Rules as model
use Rattle.udf_volume_model.specs.Opened.{is_volume_unbroken}
use Rattle.udf_mended_image.specs.Accepted.{is_unbroken, unbroken_in}
use Rattle.udf_layer.specs.declared.missing.Missing.{Missing}
use Rattle.udf_volume.specs.declared.volume.Volume.{Volume}
use Rattle.udf_volume.specs.Taken.{opening}
use Rattle.udf_volume.proofs.Described.{opened_ok, size_is}
use Rattle.udf_rules.specs.declared.finding.Finding.{Finding}
use Rattle.udf_rules.specs.Findings.{finding_of, findings_in}
use Rattle.udf_rules_model.specs.Found.{is_nothing}
use Rattle.udf_rules_model.specs.Findings.{before_volume, further_rules_hold, of_files, of_space}
use Rattle.udf_rules_model.proofs.Together.{all_rules}
use Rattle.udf_file_rules.specs.Checked.{checked, files_checked, volume_checked}
use Rattle.udf_top.specs.Checking.{found_at, found_by}
use Rattle.udf_top.proofs.VolumeFound.{no_volume_found, volume_finds_none}

-- two lists of which nothing is left have nothing
parts_nothing : {A : Type 0} (xs ys : List A) → xs ++ ys ≡ [] → (xs ≡ []) × (ys ≡ [])
parts_nothing [] ys e = (refl, e)
parts_nothing (x ∷ xs) ys e = absurd (cc)

seen_nothing : {A B : Type 0} (g : A → B) (xs : List A) → map g xs ≡ [] → is_nothing xs ≡ true
seen_nothing g [] e = refl
seen_nothing g (x ∷ xs) e = absurd (cc)

nothing_seen : {A : Type 0} (xs : List A) → is_nothing xs ≡ true → xs ≡ []
nothing_seen [] e = refl
nothing_seen (x ∷ xs) e = absurd (cc)

append_nothing : {A : Type 0} (xs ys : List A) → is_nothing (xs ++ ys) ≡ true → (is_nothing xs ≡ true) × (is_nothing ys ≡ true)
append_nothing [] ys e = (refl, e)
append_nothing (x ∷ xs) ys e = absurd (cc)

all_true : (a b c : Bool) → a ≡ true → b ≡ true → c ≡ true → (a && (b && c)) ≡ true
all_true a b c h i j = ap (λ x. x && (b && c)) h ∙ ap (λ x. x && c) i ∙ j

module _ (size : ℕ) (image : List ℕ) (volume : Volume) (e : opening size image ≡ Ok volume) where
  sized : volume.size ≡ size
  sized = let d = opened_ok size image volume e in size_is size image volume d.0 d.1

  pub nothing_checked : checked volume image ≡ [] → (is_volume_unbroken size image && further_rules_hold volume image) ≡ true
  unfolding volume_checked files_checked
  nothing_checked none =
      let d = opened_ok size image volume e in
      let p = parts_nothing (volume_checked volume image) (files_checked volume image) none in
      let q = parts_nothing (map finding_of (before_volume volume image)) (findings_in volume.size image) p.0 in
      let r = append_nothing (of_files volume image) (of_space volume image) (seen_nothing finding_of (of_files volume image ++ of_space volume image) p.1) in
      ap (λ b. b && further_rules_hold volume image) (no_volume_found size image d.0 d.1.found (ap (λ (n : ℕ). findings_in n image) (sym sized) ∙ q.1))
      ∙ sym (all_rules volume image)
      ∙ all_true (is_nothing (before_volume volume image)) (is_nothing (of_files volume image)) (is_nothing (of_space volume image))
      (seen_nothing finding_of (before_volume volume image) q.0) r.0 r.1

  pub checked_nothing : (is_volume_unbroken size image && further_rules_hold volume image) ≡ true → checked volume image ≡ []
  unfolding volume_checked files_checked
  checked_nothing rules =
      let p = and_parts (is_volume_unbroken size image) (further_rules_hold volume image) rules in
      let q = and_parts (is_nothing (before_volume volume image)) _ (all_rules volume image ∙ p.1) in
      let r = and_parts (is_nothing (of_files volume image)) _ q.1 in
      ap (λ (l : List model.Finding). (map finding_of l ++ findings_in volume.size image) ++ files_checked volume image) (nothing_seen (before_volume volume image) q.0)
      ∙ ap (λ (l : List Finding). l ++ files_checked volume image) (ap (λ (n : ℕ). findings_in n image) sized ∙ volume_finds_none size image p.0)
      ∙ ap (λ (l : List model.Finding). map finding_of (l ++ of_space volume image)) (nothing_seen (of_files volume image) r.0)
      ∙ ap (λ (l : List model.Finding). map finding_of l) (nothing_seen (of_space volume image) r.1)

-- what is found at a block size
module _ (size : ℕ) (image : List ℕ) where
  pub found_as : (volume : Volume) → opening size image ≡ Ok volume → found_at size image ≡ checked volume image
  unfolding found_at
  found_as volume e = ap (λ (r : Result Volume Missing). found_by r image) e

  pub unbroken_finds_none : is_unbroken size image ≡ true → found_at size image ≡ []
  unfolding is_unbroken
  unbroken_finds_none = by (opening size image) refl
    where
      by : (r : Result Volume Missing) → opening size image ≡ r → unbroken_in size image r ≡ true → found_at size image ≡ []
      by (Ok volume) e rules = found_as volume e ∙ checked_nothing size image volume e rules
      by (Err missing) e rules = absurd (cc)

  pub none_found : (volume : Volume) → opening size image ≡ Ok volume → found_at size image ≡ [] → is_unbroken size image ≡ true
  unfolding is_unbroken
  none_found volume e none = ap (λ (r : Result Volume Missing). unbroken_in size image r) e ∙ nothing_checked size image volume e (sym (found_as volume e) ∙ none)
