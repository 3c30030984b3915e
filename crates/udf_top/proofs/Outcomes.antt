-- The outcome of a check, and a sink that a run has not written to.
use Rattle.std.proofs.Common.{◌≡◌, ℕ, ◌++◌, sym, ◌∙◌, ap, List, Option, Some, None, Result, Ok, Err}
use Rattle.std.proofs.lemmas.List.{append-nil}
use Rattle.udf_layer.specs.declared.missing.Missing.{Missing}
use Rattle.udf_volume_model.specs.Size.{size_of}
use Rattle.udf_layer.specs.declared.missing.LayerStop.{LayerStop}
use Rattle.udf_layer.specs.declared.missing.LayerStop.TheVariants as stops
use Rattle.udf_rules.specs.declared.finding.Finding.{Finding}
use Rattle.udf_top.specs.declared.outcome.Outcome.TheVariants as outcome
use Rattle.udf_top.specs.Texts.{replayed_text}
use Rattle.udf_top.specs.Checking.{found_at, refusal_at}
use Rattle.udf_top.specs.Udffsck.{by_findings, by_refusal, check_at, check_sized, check_of, Examines, ExaminesAt, HoldsFront}

refused : (size : ℕ) (image : List ℕ) (missing : Missing) → refusal_at size image ≡ Some missing → outcome.Refused missing ≡ check_at size image
unfolding check_at
refused size image missing e = sym (ap (λ (r : Option Missing). by_refusal r (found_at size image)) e)

examined : (size : ℕ) (image : List ℕ) (findings : List Finding) → refusal_at size image ≡ None → findings ≡ found_at size image
    → by_findings findings ≡ check_at size image
unfolding check_at
examined size image findings e is = ap by_findings is ∙ sym (ap (λ (r : Option Missing). by_refusal r (found_at size image)) e)

-- at the block size that is given or found
module _ (given : Option ℕ) (image : List ℕ) (size : ℕ) (sized : size_of given image ≡ Some size) where
  at_size : check_at size image ≡ check_of given image
  at_size = sym (ap (λ (found : Option ℕ). check_sized found image) sized)

  pub examined_sized : (answer : Result (List Finding) LayerStop) → ExaminesAt size image answer → Examines given image answer
  examined_sized (Ok findings) (none, is) = examined size image findings none is ∙ at_size
  examined_sized (Err (stops.Missing missing)) refuses = refused size image missing refuses ∙ at_size
  examined_sized (Err stops.Fault) answers = tt
  examined_sized (Err stops.Memory) answers = tt

pub nothing_of : (told : Option (List ℕ)) (before text : List ℕ) → told ≡ Some before → HoldsFront told before text
nothing_of told before text e = (0, e ∙ ap Some (sym (append-nil before)))

-- a run that replayed no block prints no line of a replay
pub unreplayed : (told : Option (List ℕ)) (before medium : List ℕ) (replayed : ℕ) → replayed ≡ 0 → told ≡ Some before
    → told ≡ Some (before ++ replayed_text medium replayed)
unfolding replayed_text
unreplayed told before medium replayed none e = rw none (e ∙ ap Some (sym (append-nil before)))
