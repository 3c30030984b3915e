-- When a run is clean, by the rules.
use Rattle.std.proofs.Common.{◌≡◌, ℕ, zero, suc, List, [], ◌∷◌, refl, sym, ◌∙◌, ap, true, false, Option, Some, None, Result, Ok, Err}
use Rattle.udf_outside.specs.Stops.{Pair}
use Rattle.udf_volume_model.specs.Size.{size_of}
use Rattle.udf_mended_image.specs.Accepted.{is_accepted, is_unbroken, repairing}
use Rattle.udf_mended_image.specs.Sized.{accepted_by, is_accepted_as, unbroken_by, is_unbroken_as}
use Rattle.udf_layer.specs.declared.missing.Missing.{Missing}
use Rattle.udf_layer.specs.declared.missing.Missing.TheVariants.{Anchor}
use Rattle.udf_volume.specs.declared.volume.Volume.{Volume}
use Rattle.udf_volume.specs.Taken.{opening}
use Rattle.udf_redo.specs.declared.stop.RedoStop.{RedoStop}
use Rattle.udf_redo.specs.declared.stop.RedoStop.TheVariants as stop
use Rattle.udf_redo.specs.Settled.{settled}
use Rattle.udf_rules.specs.declared.finding.Finding.{Finding}
use Rattle.udf_top.specs.declared.outcome.Outcome.TheVariants as outcome
use Rattle.udf_top.specs.Repairing.{replaying, refused_log, repaired_as, mend_of, mend_sized, repair_from, repair_of, written_in}
use Rattle.udf_top.specs.Checking.{found_at, refusal_at, refusal_by}
use Rattle.udf_top.specs.Udffsck.{by_findings, by_refusal, check_at, check_sized, check_of}
use Rattle.udf_top.proofs.Checks.{none_found, unbroken_finds_none}
use Rattle.udf_top.proofs.Mending.{accepted_ok, not_accepted, mend_ok, mend_refused, none_unbroken_image}

-- no findings
found_none : (findings : List Finding) → by_findings findings ≡ outcome.Clean → findings ≡ []
found_none [] e = cc
found_none (finding ∷ rest) e = absurd (cc)

repaired_none : (replayed : ℕ) (findings : List Finding) (written : ℕ) → repaired_as replayed findings written ≡ outcome.Clean → (replayed ≡ 0) × (findings ≡ [])
repaired_none zero [] written e = (cc, cc)
repaired_none zero (finding ∷ rest) written e = absurd (cc)
repaired_none (suc k) findings written e = absurd (cc)

not_clean : (why : RedoStop) → refused_log why ≡ outcome.Clean → ⊥
not_clean stop.NotALog e = absurd (cc)
not_clean stop.BadLog e = absurd (cc)
not_clean (stop.WrongImage clash) e = absurd (cc)
not_clean stop.Fault e = absurd (cc)
not_clean stop.Memory e = absurd (cc)

module _ (size : ℕ) (image : List ℕ) where
  clean_refused : (o : Option Missing) → refusal_at size image ≡ o → check_at size image ≡ outcome.Clean → (refusal_at size image ≡ None) × (found_at size image ≡ [])
  unfolding check_at
  clean_refused None e clean =
      (e, found_none (found_at size image) (sym (ap (λ (r : Option Missing). by_refusal r (found_at size image)) e) ∙ clean))
  clean_refused (Some missing) e clean =
      absurd (let no : outcome.Refused missing ≡ outcome.Clean = sym (ap (λ (r : Option Missing). by_refusal r (found_at size image)) e) ∙ clean in cc)

  clean_at : check_at size image ≡ outcome.Clean → (refusal_at size image ≡ None) × (is_unbroken size image ≡ true)
  unfolding refusal_at
  clean_at clean =
      let is = clean_refused (refusal_at size image) refl clean in
      (is.0, by_answer (opening size image) refl is.0 is.1) where
        by_answer : (found : Result Volume Missing) → opening size image ≡ found → refusal_at size image ≡ None → found_at size image ≡ [] → is_unbroken size image ≡ true
        by_answer (Ok volume) e none nothing = none_found size image volume e nothing
        by_answer (Err missing) e none nothing =
            absurd (let no : Some missing ≡ None = sym (ap (λ (r : Result Volume Missing). refusal_by r image) e) ∙ none in cc)

  at_clean : refusal_at size image ≡ None → is_unbroken size image ≡ true → check_at size image ≡ outcome.Clean
  unfolding check_at
  at_clean none rules =
      ap (λ (r : Option Missing). by_refusal r (found_at size image)) none ∙ ap by_findings (unbroken_finds_none size image rules)

  mend_clean : (replayed : ℕ) → mend_of size replayed image ≡ outcome.Clean → (replayed ≡ 0) × ((is_accepted size image ≡ true) × (is_unbroken size image ≡ true))
  mend_clean replayed clean = by_answer (repairing size image) refl where
    by_answer : (found : Result Volume Missing) → repairing size image ≡ found → (replayed ≡ 0) × ((is_accepted size image ≡ true) × (is_unbroken size image ≡ true))
    by_answer (Ok volume) e =
        let none = repaired_none replayed (found_at size image) (written_in size image) (sym (mend_ok size image replayed volume e) ∙ clean) in
        (none.0, (accepted_ok size image volume e, none_unbroken_image size image volume e none.1))
    by_answer (Err missing) e = absurd (let no : outcome.Refused missing ≡ outcome.Clean = sym (mend_refused size image replayed missing e) ∙ clean in cc)

  clean_mend : is_accepted size image ≡ true → is_unbroken size image ≡ true → mend_of size 0 image ≡ outcome.Clean
  clean_mend accepted unbroken = by_answer (repairing size image) refl where
    by_answer : (found : Result Volume Missing) → repairing size image ≡ found → mend_of size 0 image ≡ outcome.Clean
    by_answer (Ok volume) e =
        mend_ok size image 0 volume e ∙ ap (λ (fs : List Finding). repaired_as 0 fs (written_in size image)) (unbroken_finds_none size image unbroken)
    by_answer (Err missing) e = absurd (let no : true ≡ false = sym accepted ∙ not_accepted size image missing e in cc)

-- at the block size that is given or found
module _ (given : Option ℕ) (image : List ℕ) where
  abbrev pub IsCleanAt : ℕ → Type 0
  IsCleanAt size = (refusal_at size image ≡ None) × (is_unbroken size image ≡ true)

  pub clean_check : check_of given image ≡ outcome.Clean → (size : ℕ) × ((size_of given image ≡ Some size) × IsCleanAt size)
  clean_check clean = by_size (size_of given image) refl where
    by_size : (found : Option ℕ) → size_of given image ≡ found → (size : ℕ) × ((size_of given image ≡ Some size) × IsCleanAt size)
    by_size None e = absurd (let no : outcome.Refused Anchor ≡ outcome.Clean = sym (ap (λ (f : Option ℕ). check_sized f image) e) ∙ clean in cc)
    by_size (Some size) e = (size, (e, clean_at size image (sym (ap (λ (f : Option ℕ). check_sized f image) e) ∙ clean)))

  pub check_clean : (size : ℕ) → size_of given image ≡ Some size → refusal_at size image ≡ None → is_unbroken size image ≡ true
      → check_of given image ≡ outcome.Clean
  check_clean size e none rules = ap (λ (f : Option ℕ). check_sized f image) e ∙ at_clean size image none rules

  abbrev IsRepairClean : ℕ → Type 0
  IsRepairClean replayed = (replayed ≡ 0) × ((is_accepted_as given image ≡ true) × (is_unbroken_as given image ≡ true))

  clean_sized : (replayed : ℕ) → mend_sized (size_of given image) replayed image ≡ outcome.Clean → IsRepairClean replayed
  clean_sized replayed clean = by_size (size_of given image) refl where
    by_size : (found : Option ℕ) → size_of given image ≡ found → IsRepairClean replayed
    by_size None e = absurd (let no : outcome.Refused Anchor ≡ outcome.Clean = sym (ap (λ (f : Option ℕ). mend_sized f replayed image) e) ∙ clean in cc)
    by_size (Some size) e =
        let is = mend_clean size image replayed (sym (ap (λ (f : Option ℕ). mend_sized f replayed image) e) ∙ clean) in
        (is.0, (ap (λ (f : Option ℕ). accepted_by f image) e ∙ is.1.0, ap (λ (f : Option ℕ). unbroken_by f image) e ∙ is.1.1))

  sized_clean : is_accepted_as given image ≡ true → is_unbroken_as given image ≡ true → mend_sized (size_of given image) 0 image ≡ outcome.Clean
  sized_clean accepted unbroken = by_size (size_of given image) refl where
    by_size : (found : Option ℕ) → size_of given image ≡ found → mend_sized (size_of given image) 0 image ≡ outcome.Clean
    by_size None e = absurd (let no : false ≡ true = sym (ap (λ (f : Option ℕ). accepted_by f image) e) ∙ accepted in cc)
    by_size (Some size) e =
        ap (λ (f : Option ℕ). mend_sized f 0 image) e
        ∙ clean_mend size image
        (sym (ap (λ (f : Option ℕ). accepted_by f image) e) ∙ accepted)
        (sym (ap (λ (f : Option ℕ). unbroken_by f image) e) ∙ unbroken)

module _ (given : Option ℕ) (pair : Pair) where
  repair_as : (answer : Result ℕ RedoStop) → replaying pair ≡ answer → repair_of given pair ≡ repair_from given answer (settled pair)
  unfolding repair_of
  repair_as answer e = ap (λ (r : Result ℕ RedoStop). repair_from given r (settled pair)) e

  pub clean_repair : repair_of given pair ≡ outcome.Clean
      → (replaying pair ≡ Ok 0) × ((is_accepted_as given (settled pair) ≡ true) × (is_unbroken_as given (settled pair) ≡ true))
  clean_repair clean = by_answer (replaying pair) refl where
    by_answer : (answer : Result ℕ RedoStop) → replaying pair ≡ answer
        → (replaying pair ≡ Ok 0) × ((is_accepted_as given (settled pair) ≡ true) × (is_unbroken_as given (settled pair) ≡ true))
    by_answer (Ok k) e =
        let is = clean_sized given (settled pair) k (sym (repair_as (Ok k) e) ∙ clean) in
        (e ∙ ap (λ (n : ℕ). Ok n) is.0, is.1)
    by_answer (Err why) e = absurd (not_clean why (sym (repair_as (Err why) e) ∙ clean))

  pub repair_clean : replaying pair ≡ Ok 0 → is_accepted_as given (settled pair) ≡ true → is_unbroken_as given (settled pair) ≡ true
      → repair_of given pair ≡ outcome.Clean
  repair_clean answer accepted unbroken = repair_as (Ok 0) answer ∙ sized_clean given (settled pair) accepted unbroken
