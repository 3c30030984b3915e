-- Nothing is found of the rules on a volume's description exactly where they hold.
use Rattle.std.proofs.Common.{◌≡◌, ℕ, List, [], ◌∷◌, map, refl, sym, ◌∙◌, ap, true, Option, Some, None}
use Rattle.udf_model.specs.Image.{block_of, blocks_in}
use Rattle.udf_volume_model.specs.Kept as model
use Rattle.udf_volume_model.specs.Kept.{kept_sequence_of}
use Rattle.udf_volume_model.specs.Rules as model_rules
use Rattle.udf_volume_model.specs.Opened.{is_volume_unbroken, is_volume_unbroken_by}
use Rattle.udf_volume_laws.proofs.Findings as laws
use Rattle.udf_rules.specs.Findings.{finding_of, findings_by, findings_in}

map_none : (founds : List model_rules.Finding) → map finding_of founds ≡ [] → founds ≡ []
map_none [] e = refl
map_none (found ∷ rest) e = absurd (cc)

module _ (size : ℕ) (image : List ℕ) where
  by_volume : (found : Option model.KeptSequence) → is_volume_unbroken_by size image found ≡ true → findings_by size image found ≡ []
  by_volume None e = absurd (cc)
  by_volume (Some v) e = ap (λ (fs : List model_rules.Finding). map finding_of fs) (laws.unbroken size (blocks_in size image) (block_of size image) v e)

  pub volume_finds_none : is_volume_unbroken size image ≡ true → findings_in size image ≡ []
  unfolding is_volume_unbroken findings_in
  volume_finds_none e = by_volume (kept_sequence_of size image) e

  pub no_volume_found : (v : model.KeptSequence) → kept_sequence_of size image ≡ Some v → findings_in size image ≡ [] → is_volume_unbroken size image ≡ true
  unfolding is_volume_unbroken findings_in
  no_volume_found v is e =
      ap (is_volume_unbroken_by size image) is
      ∙ laws.broken size (blocks_in size image) (block_of size image) v (map_none _ (sym (ap (findings_by size image) is) ∙ e))
