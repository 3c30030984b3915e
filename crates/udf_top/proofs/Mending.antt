-- What a repair of a settled image answers, and what it leaves of the files.
use Rattle.std.proofs.Common.{◌≡◌, ⊎_elim, ℕ, zero, suc, ◌<◌, ◌≤◌, arith, refl, sym, ◌∙◌, ap, subst, List, [], ◌∷◌, length, true, false, eqb, Result, Ok, Err, is_ok}
use Rattle.std.proofs.lemmas.List.{length-map}
use Rattle.std.proofs.lemmas.Bool.{cases_Bool, eqb-true, false≢true}
use Rattle.udf_model.specs.Bytes.{IsBytes}
use Rattle.udf_model.specs.Size.{is_size}
use Rattle.udf_outside.specs.declared.bench.Role.TheVariants.{Image, Side}
use Rattle.udf_outside.specs.Stops.{Held, Pair, bytes_of, pair_of, IsSynced, LeavesOnly}
use Rattle.udf_outside.proofs.Runs.{leaves_same}
use Rattle.udf_volume_model.specs.Edits.{put_blocks}
use Rattle.udf_volume_model.specs.Plans.{IsRewrite}
use Rattle.udf_volume_model.specs.Opened.{difference, plan_of}
use Rattle.udf_volume_laws.proofs.Applied.{plan_gives}
use Rattle.udf_layer.specs.declared.missing.Missing.{Missing}
use Rattle.udf_volume.specs.declared.volume.Volume.{Volume}
use Rattle.udf_volume.specs.Taken.{opening}
use Rattle.udf_mended_image.specs.Accepted.{is_accepted, is_unbroken, mended, mend, repairing}
use Rattle.udf_mended_image.proofs.Repair.{alike, by_mend, differs, still}
use Rattle.udf_mended_image.proofs.Unbroken.{accepts}
use Rattle.udf_redo.specs.Settled.{IsFree}
use Rattle.udf_words.specs.declared.cause.Cause.{Cause}
use Rattle.udf_rules.specs.declared.finding.Finding.{Finding}
use Rattle.udf_top.specs.declared.outcome.Outcome.{Outcome}
use Rattle.udf_top.specs.declared.outcome.Outcome.TheVariants as outcome
use Rattle.udf_top.specs.Checking.{found_at}
use Rattle.udf_top.specs.Texts.{text_of, mend_text}
use Rattle.udf_top.specs.Repairing.{repaired_as, mend_by, mend_of, written_in, text_by_volume, mend_said}
use Rattle.udf_top.specs.Endings.{Ending, Mended, Told, DeviceFailed, Failed, ending_of, IsEnd, IsMendedEnd, HasEnded, HasRepaired, HasOpenedNoGate}
use Rattle.udf_top.specs.Steps.{IsMending, IsMended, Mends}
use Rattle.udf_top.proofs.Checks.{none_found, unbroken_finds_none}
use Rattle.udf_top.proofs.Settling.{settled_free}
use Rattle.udf_top.proofs.Stepping.{resting}

-- the volume that a repair takes is one that is opened
pub opened_ok : (size : ℕ) (image : List ℕ) (volume : Volume) → repairing size image ≡ Ok volume → opening size image ≡ Ok volume
opened_ok size image volume e = (accepts size image volume e).opens

pub accepted_ok : (size : ℕ) (image : List ℕ) (volume : Volume) → repairing size image ≡ Ok volume → is_accepted size image ≡ true
unfolding is_accepted
accepted_ok size image volume e = ap is_ok e

pub not_accepted : (size : ℕ) (image : List ℕ) (missing : Missing) → repairing size image ≡ Err missing → is_accepted size image ≡ false
unfolding is_accepted
not_accepted size image missing e = ap is_ok e

-- the mended image of one that is accepted and breaks a rule
mend_is : (size : ℕ) (image : List ℕ) → is_accepted size image ≡ true → is_unbroken size image ≡ false → mend size image ≡ mended size image
mend_is size image accepted broken =
    by_mend size image (λ after. after ≡ mended size image) (λ a n. refl)
    (λ stays. ⊎_elim (λ refused. absurd (false≢true (sym refused ∙ accepted))) (λ unbroken. absurd (false≢true (sym broken ∙ unbroken))) stays)

-- where something is found a rule is broken
broken_by : (size : ℕ) (image : List ℕ) → 1 ≤ length (found_at size image) → is_unbroken size image ≡ false
broken_by size image some = ⊎_elim
    (λ unbroken. absurd (let none : length (found_at size image) ≡ 0 = ap length (unbroken_finds_none size image unbroken) in omega (arith, none, some)))
    (λ broken. broken)
    (cases_Bool (is_unbroken size image))

-- the plan of all rules is that of the repair
pub plan_is : (size : ℕ) (image : List ℕ) (volume : Volume) (plan : List (ℕ × List ℕ)) → repairing size image ≡ Ok volume → 1 ≤ length (found_at size image)
    → plan ≡ plan_of size image (mended size image) → plan ≡ plan_of size image (mend size image)
plan_is size image volume plan e some is = is ∙ ap (plan_of size image) (sym (mend_is size image (accepted_ok size image volume e) (broken_by size image some)))

module _ (size : ℕ) (image : List ℕ) where
  pub none_unbroken_image : (volume : Volume) → repairing size image ≡ Ok volume → found_at size image ≡ [] → is_unbroken size image ≡ true
  none_unbroken_image volume e none = none_found size image volume (opened_ok size image volume e) none

  pub nothing_written : is_unbroken size image ≡ true → written_in size image ≡ 0
  unfolding written_in
  nothing_written e = ap length (alike size image e)

  pub some_written : is_size size ≡ true → IsBytes image → is_accepted size image ≡ true → is_unbroken size image ≡ false → 1 ≤ written_in size image
  unfolding written_in
  some_written sized bytes accepted broken = differs size image sized bytes accepted broken

  pub written_is : length (plan_of size image (mend size image)) ≡ written_in size image
  unfolding plan_of written_in
  written_is = length-map (difference size image (mend size image)) _

  pub said_ok : (medium : List ℕ) (volume : Volume) → repairing size image ≡ Ok volume
      → mend_said size medium image ≡ mend_text medium (found_at size image) (written_in size image)
  unfolding mend_said
  said_ok medium volume e = ap (λ (r : Result Volume Missing). text_by_volume medium r (found_at size image) (written_in size image)) e

  -- what is put before the difference is written
  pub text_is : (medium : List ℕ) (volume : Volume) (findings : List Finding) (plan : List (ℕ × List ℕ)) (count : ℕ) → repairing size image ≡ Ok volume
      → findings ≡ found_at size image → plan ≡ plan_of size image (mend size image) → count ≡ length plan → mend_text medium findings count ≡ mend_said size medium image
  text_is medium volume findings plan count e found is n =
      ap (λ (fs : List Finding). mend_text medium fs count) found
      ∙ ap (λ (k : ℕ). mend_text medium (found_at size image) k) (n ∙ ap length is ∙ written_is)
      ∙ sym (said_ok medium volume e)

  pub said_refused : (medium : List ℕ) (missing : Missing) → repairing size image ≡ Err missing → mend_said size medium image ≡ text_of medium (outcome.Refused missing)
  unfolding mend_said
  said_refused medium missing e = ap (λ (r : Result Volume Missing). text_by_volume medium r (found_at size image) (written_in size image)) e

  pub mend_ok : (replayed : ℕ) (volume : Volume) → repairing size image ≡ Ok volume
      → mend_of size replayed image ≡ repaired_as replayed (found_at size image) (written_in size image)
  unfolding mend_of
  mend_ok replayed volume e = ap (λ (r : Result Volume Missing). mend_by r replayed (found_at size image) (written_in size image)) e

  pub mend_refused : (replayed : ℕ) (missing : Missing) → repairing size image ≡ Err missing → mend_of size replayed image ≡ outcome.Refused missing
  unfolding mend_of
  mend_refused replayed missing e = ap (λ (r : Result Volume Missing). mend_by r replayed (found_at size image) (written_in size image)) e

  -- an empty plan changes nothing
  by_length : (plan : List (ℕ × List ℕ)) → length plan ≡ 0 → plan ≡ []
  by_length [] e = refl
  by_length (edit ∷ rest) e = absurd (cc)

  pub empty_plan : (plan : List (ℕ × List ℕ)) (after : List ℕ) → 0 < size → IsRewrite size image after → plan ≡ plan_of size image after → length plan ≡ 0 → image ≡ after
  unfolding put_blocks
  empty_plan plan after some rewrites is none =
      ap (λ (edits : List (ℕ × List ℕ)). put_blocks size edits image) (sym (by_length plan none) ∙ is) ∙ plan_gives size image after some rewrites

  -- a repair of broken rules ends as repaired
  pub repaired_broken : (replayed : ℕ) (findings : List Finding) (written : ℕ) → 1 ≤ length findings → repaired_as replayed findings written ≡ outcome.Repaired replayed written
  repaired_broken replayed [] written h = absurd (omega (arith, h))
  repaired_broken zero (finding ∷ rest) written h = refl
  repaired_broken (suc k) (finding ∷ rest) written h = refl

-- a run that found nothing ends as such, and not as one whose words or names are wrong
module _ (replayed : ℕ) (result : Outcome) (is : HasEnded result → result ≡ repaired_as replayed [] 0) where
  by_replayed : (P : Outcome → Type 0) → P outcome.Clean → ((k : ℕ) → P (outcome.Repaired (suc k) 0)) → P (repaired_as replayed [] 0)
  by_replayed P clean repaired = by replayed
    where
      by : (k : ℕ) → P (repaired_as k [] 0)
      by zero = clean
      by (suc k) = repaired k

  pub no_usage : (cause : Cause) → result ≡ outcome.Usage cause → ⊥
  no_usage cause e =
      by_replayed (λ r. r ≡ outcome.Usage cause → ⊥) (λ h. absurd (cc)) (λ k h. absurd (cc)) (sym (is (subst HasEnded (sym e) tt)) ∙ e)

  pub no_same_file : result ≡ outcome.SameFile → ⊥
  no_same_file e = by_replayed (λ r. r ≡ outcome.SameFile → ⊥) (λ h. absurd (cc)) (λ k h. absurd (cc)) (sym (is (subst HasEnded (sym e) tt)) ∙ e)

pub clean_text : (medium : List ℕ) (written : ℕ) → text_of medium outcome.Clean ≡ mend_text medium [] written
unfolding text_of mend_text
clean_text medium written = refl

-- no findings
pub empty_is : (findings : List Finding) → true ≡ eqb (length findings) 0 → findings ≡ []
empty_is [] e = refl
empty_is (finding ∷ rest) e = absurd (let no : suc (length rest) ≡ 0 = eqb-true _ _ (sym e) in omega (arith, no))

pub ended_repaired : (result : Outcome) → HasRepaired result → HasEnded result
ended_repaired result = by_ending (ending_of result) where
  by_ending : (ending : Ending) → IsMendedEnd ending → IsEnd ending
  by_ending (Mended written) h = tt
  by_ending Told h = absurd h
  by_ending DeviceFailed h = absurd h
  by_ending Failed h = absurd h

-- nothing was written
module _ (size : ℕ) (old new : Held) (settled : IsSynced old) (free : IsFree (bytes_of Side old)) (same : new ≡ old) where
  pub quiet : (after : List ℕ) → LeavesOnly old new (IsMending size (bytes_of Image old) after)
  quiet after =
      leaves_same old new (IsMending size (bytes_of Image old) after) same
      (λ pair now. subst (λ (p : Pair). IsMending size (bytes_of Image old) after p) (sym (settled pair now))
      (resting size (bytes_of Image old) after (pair_of old) refl free (settled_free (bytes_of Image old) (bytes_of Side old) free)))

  pub mended_still : (after : List ℕ) → bytes_of Image old ≡ after → IsMended after new
  mended_still after is =
      subst (λ (held : Held). IsMended after held) (sym same) (record { holds = is; side = free; synced = settled })

  module _ (replayed : ℕ) (result : Outcome) where
    -- a fault or want of memory came
    pub mends_stopped : (HasEnded result → ⊥) → Mends size replayed old new result
    mends_stopped failed = record {
      outcome = λ ended. absurd (failed ended);
      moments = quiet _;
      done = λ repaired. absurd (failed (ended_repaired result repaired));
      unopened = λ none. same;
      unbroken = λ unbroken. same;
    }

    -- the image was refused
    pub mends_refused : (missing : Missing) → repairing size (bytes_of Image old) ≡ Err missing → (HasEnded result → result ≡ outcome.Refused missing)
        → Mends size replayed old new result
    mends_refused missing e is = record {
      outcome = λ ended. is ended ∙ sym (mend_refused size (bytes_of Image old) replayed missing e);
      moments = quiet _;
      done = λ repaired. absurd (subst HasRepaired (is (ended_repaired result repaired)) repaired);
      unopened = λ none. same;
      unbroken = λ unbroken. same;
    }

    -- no rule is broken
    pub mends_unbroken : (volume : Volume) → repairing size (bytes_of Image old) ≡ Ok volume → found_at size (bytes_of Image old) ≡ []
        → (HasEnded result → result ≡ repaired_as replayed [] 0) → Mends size replayed old new result
    mends_unbroken volume e none is =
        let image = bytes_of Image old in
        let unbroken = none_unbroken_image size image volume e none in record {
          outcome = λ ended. is ended
              ∙ ap (λ (n : ℕ). repaired_as replayed [] n) (sym (nothing_written size image unbroken))
              ∙ ap (λ (fs : List Finding). repaired_as replayed fs (written_in size image)) (sym none)
              ∙ sym (mend_ok size image replayed volume e);
          moments = quiet _;
          done = λ repaired. mended_still _ (sym (still size image unbroken));
          unopened = λ opened. same;
          unbroken = λ holds. same;
        }

-- the difference was written, or a stop came
pub mends_broken : (size replayed count : ℕ) (old new : Held) (result : Outcome) (volume : Volume) → repairing size (bytes_of Image old) ≡ Ok volume
    → 1 ≤ length (found_at size (bytes_of Image old)) → count ≡ written_in size (bytes_of Image old)
    → (HasEnded result → result ≡ outcome.Repaired replayed count) → LeavesOnly old new (IsMending size (bytes_of Image old) (mend size (bytes_of Image old)))
    → (HasEnded result → IsMended (mend size (bytes_of Image old)) new) → (HasOpenedNoGate result → new ≡ old) → Mends size replayed old new result
mends_broken size replayed count old new result volume e broken count_is is moments done unopened =
    let image = bytes_of Image old in record {
      outcome = λ ended. is ended ∙ ap (λ (n : ℕ). outcome.Repaired replayed n) count_is
          ∙ sym (repaired_broken size image replayed (found_at size image) (written_in size image) broken) ∙ sym (mend_ok size image replayed volume e);
      moments = moments;
      done = λ repaired. done (ended_repaired result repaired);
      unopened = unopened;
      unbroken = λ unbroken. absurd (let none : length (found_at size image) ≡ 0 = ap length (unbroken_finds_none size image unbroken) in omega (arith, none, broken));
    }
