-- How a repair ends.
use Rattle.std.proofs.Common.{◌≡◌, ◌⊎◌, inl, inr, ⊎_elim, ℕ, zero, suc, List, [], ◌∷◌, ◌++◌, refl, sym, ◌∙◌, ap, subst, Bool, true, false, cond, Option, Some, Result, Ok, Err}
use Rattle.std.specs.Str.{bytes_eq}
use Rattle.udf_model.specs.Bytes.{IsBytes}
use Rattle.udf_model.specs.Size.{is_size}
use Rattle.udf_outside.specs.declared.bench.Role.TheVariants.{Image, Side}
use Rattle.udf_outside.specs.Stops.{Held, Pair, bytes_of, pair_of, moment, IsSynced, LeavesOnly}
use Rattle.udf_outside.proofs.Moments.{seen_now, now_counts}
use Rattle.udf_outside.proofs.Runs.{leaves_weaker, leaves_then}
use Rattle.udf_volume_model.specs.Size.{size_of}
use Rattle.udf_mended_image.specs.Accepted.{is_accepted, is_unbroken, mend, repairing}
use Rattle.udf_mended_image.specs.Sized.{accepted_by, is_accepted_as, unbroken_by}
use Rattle.udf_mended_image.proofs.Repair.{accepted_after, size_stays, unbroken_after}
use Rattle.udf_layer.specs.declared.missing.Missing.{Missing}
use Rattle.udf_layer.specs.declared.missing.LayerStop.{LayerStop}
use Rattle.udf_layer.specs.declared.missing.LayerStop.TheVariants as size_stop
use Rattle.udf_volume.specs.declared.volume.Volume.{Volume}
use Rattle.udf_redo.specs.declared.stop.RedoStop.{RedoStop}
use Rattle.udf_redo.specs.declared.stop.RedoStop.TheVariants as stop
use Rattle.udf_redo.specs.Settled.{settled, IsFree, CanGoOn}
use Rattle.udf_redo.specs.Faults.{Answers}
use Rattle.udf_rules.specs.declared.finding.Finding.{Finding}
use Rattle.udf_top.specs.declared.outcome.Outcome.{Outcome}
use Rattle.udf_top.specs.declared.outcome.Outcome.TheVariants as outcome
use Rattle.udf_top.specs.Checking.{found_at}
use Rattle.udf_top.specs.Texts.{text_of, replayed_text}
use Rattle.udf_top.specs.Repairing.{replaying, refused_log, refused_size, repaired_as, mend_of, mend_sized, said_sized, written_in, repair_from, repair_of, said_from, repair_said}
use Rattle.udf_top.specs.Endings.{Ending, Mended, Told, DeviceFailed, Failed, ending_of, IsEnd, IsMendedOrFailed, IsUnopened, HasEnded, HasRepaired, HasRepairedOrFailed, HasOpenedNoGate}
use Rattle.udf_intact.specs.Images.{KeepsPathAs}
use Rattle.udf_intact.proofs.Images.{mend_keeps_as}
use Rattle.udf_top.specs.Headline.{IsDone, IsSafe, IsReplayed, Repairs}
use Rattle.udf_top.specs.Steps.{IsSettling, IsMending, IsMended, Mends, Says}
use Rattle.udf_top.specs.Udffsck.{said_beside, HoldsFront, Sizes}
use Rattle.udf_top.proofs.Commanded.{front_of_none}
use Rattle.udf_top.proofs.Mending.{ended_repaired, mend_ok, mend_refused, accepted_ok, not_accepted}
use Rattle.udf_top.proofs.Safe.{HasBegun, sized_mend, can_go, cannot, not_open, target_goes, safe_mending}
use Rattle.udf_top.proofs.Said.{says_failed, says_same, says_then, first_held}

-- outcomes, by their endings
pub failed_or : (result : Outcome) → (HasEnded result → ⊥) → HasRepairedOrFailed result
failed_or result = by_ending (ending_of result) where
  by_ending : (ending : Ending) → (IsEnd ending → ⊥) → IsMendedOrFailed ending
  by_ending (Mended written) f = tt
  by_ending Told f = f tt
  by_ending DeviceFailed f = tt
  by_ending Failed f = tt

-- a run ended, or not
has_or : (result : Outcome) → HasEnded result ⊎ (HasEnded result → ⊥)
has_or result = by_ending (ending_of result) where
  by_ending : (ending : Ending) → IsEnd ending ⊎ (IsEnd ending → ⊥)
  by_ending (Mended written) = inl tt
  by_ending Told = inl tt
  by_ending DeviceFailed = inr (λ h. h)
  by_ending Failed = inr (λ h. h)

ended_as : (result wanted : Outcome) → (HasEnded result → result ≡ wanted) → HasRepairedOrFailed wanted → HasRepairedOrFailed result
ended_as result wanted is w =
    ⊎_elim (λ ended. subst HasRepairedOrFailed (sym (is ended)) w) (λ failed. failed_or result failed) (has_or result)

no_gate : (result : Outcome) → (HasRepairedOrFailed result → ⊥) → HasOpenedNoGate result
no_gate result = by_ending (ending_of result) where
  by_ending : (ending : Ending) → (IsMendedOrFailed ending → ⊥) → IsUnopened ending
  by_ending (Mended written) f = absurd (f tt)
  by_ending Told f = tt
  by_ending DeviceFailed f = absurd (f tt)
  by_ending Failed f = absurd (f tt)

module _ (given : Option ℕ) (old middle : Held) (has : HasBegun given old middle) (result : Outcome) where
  -- a fault or want of memory came before the image was looked at
  pub repairs_failed : (HasEnded result → ⊥) → (HasOpenedNoGate result → (middle ≡ old) ⊎ IsReplayed (pair_of old) middle) → Repairs given old middle result
  repairs_failed failed replayed = record {
    moments = has.safe;
    complete = λ can accepted. failed_or result failed;
    done = λ repaired. absurd (failed (ended_repaired result repaired));
    still = λ none unbroken. has.still none;
    refused = λ none not. has.still none;
    settled_only = λ missing is. absurd (failed (subst HasEnded (sym is) tt));
    unopened = λ unopened. has.stands;
    replayed_only = replayed;
  }

  -- the side file is no log of the image, or a fault or want of memory came
  module _ (why : RedoStop) (answers : Answers {T = ℕ} (replaying (pair_of old)) (Err why)) (is : HasEnded result → result ≡ refused_log why) where
    not_ended : (w : RedoStop) → Answers {T = ℕ} (replaying (pair_of old)) (Err w) → CanGoOn (pair_of old) → HasEnded (refused_log w) → ⊥
    not_ended stop.NotALog e can ended = cannot (bytes_of Image old) (bytes_of Side old) stop.NotALog e can
    not_ended stop.BadLog e can ended = cannot (bytes_of Image old) (bytes_of Side old) stop.BadLog e can
    not_ended (stop.WrongImage clash) e can ended = cannot (bytes_of Image old) (bytes_of Side old) (stop.WrongImage clash) e can
    not_ended stop.Fault e can ended = ended
    not_ended stop.Memory e can ended = ended

    not_repaired : (w : RedoStop) → HasRepaired (refused_log w) → ⊥
    not_repaired stop.NotALog h = h
    not_repaired stop.BadLog h = h
    not_repaired (stop.WrongImage clash) h = h
    not_repaired stop.Fault h = h
    not_repaired stop.Memory h = h

    not_refused : (w : RedoStop) (missing : Missing) → refused_log w ≡ outcome.Refused missing → ⊥
    not_refused stop.NotALog missing e = absurd (cc)
    not_refused stop.BadLog missing e = absurd (cc)
    not_refused (stop.WrongImage clash) missing e = absurd (cc)
    not_refused stop.Fault missing e = absurd (cc)
    not_refused stop.Memory missing e = absurd (cc)

    -- where no call on the files failed, nothing was written
    unwritten : (w : RedoStop) → Answers {T = ℕ} (replaying (pair_of old)) (Err w) → (w ≡ stop.Memory → middle ≡ old) → HasOpenedNoGate (refused_log w) → middle ≡ old
    unwritten stop.NotALog e memory none = has.still (not_open (bytes_of Image old) (bytes_of Side old) stop.NotALog e)
    unwritten stop.BadLog e memory none = has.still (not_open (bytes_of Image old) (bytes_of Side old) stop.BadLog e)
    unwritten (stop.WrongImage clash) e memory none = has.still (not_open (bytes_of Image old) (bytes_of Side old) (stop.WrongImage clash) e)
    unwritten stop.Fault e memory none = absurd none
    unwritten stop.Memory e memory none = memory refl

    -- where the outcome is not that of the stop, it is a failure that only a stop other than a fault leads to
    unwritten_as : (why ≡ stop.Fault → result ≡ outcome.DeviceFault) → (why ≡ stop.Memory → middle ≡ old) → HasOpenedNoGate result → middle ≡ old
    unwritten_as told memory none = by_stop why answers refl where
      by_stop : (w : RedoStop) → Answers {T = ℕ} (replaying (pair_of old)) (Err w) → why ≡ w → middle ≡ old
      by_stop stop.NotALog e w = unwritten stop.NotALog e (λ m. absurd (let no : stop.NotALog ≡ stop.Memory = m in cc)) tt
      by_stop stop.BadLog e w = unwritten stop.BadLog e (λ m. absurd (let no : stop.BadLog ≡ stop.Memory = m in cc)) tt
      by_stop (stop.WrongImage clash) e w = unwritten (stop.WrongImage clash) e (λ m. absurd (let no : stop.WrongImage clash ≡ stop.Memory = m in cc)) tt
      by_stop stop.Fault e w = absurd (subst HasOpenedNoGate (told w) none)
      by_stop stop.Memory e w = memory w

    pub repairs_unsettled : (why ≡ stop.Fault → result ≡ outcome.DeviceFault) → (why ≡ stop.Memory → middle ≡ old) → Repairs given old middle result
    repairs_unsettled told memory = record {
      moments = has.safe;
      complete = λ can accepted. failed_or result (λ ended. not_ended why answers can (subst HasEnded (is ended) ended));
      done = λ repaired. absurd (not_repaired why (subst HasRepaired (is (ended_repaired result repaired)) repaired));
      still = λ none unbroken. has.still none;
      refused = λ none not. has.still none;
      settled_only = λ missing e. absurd (not_refused why missing (sym (is (subst HasEnded (sym e) tt)) ∙ e));
      unopened = λ unopened. has.stands;
      replayed_only = λ none. inl (unwritten_as told memory none);
    }

    answered : (w : RedoStop) → Answers {T = ℕ} (replaying (pair_of old)) (Err w) → HasEnded (refused_log w) → replaying (pair_of old) ≡ Err w
    answered stop.NotALog e ended = e
    answered stop.BadLog e ended = e
    answered (stop.WrongImage clash) e ended = e
    answered stop.Fault e ended = absurd ended
    answered stop.Memory e ended = absurd ended

    pub outcome_unsettled : HasEnded result → result ≡ repair_of given (pair_of old)
    unfolding repair_of
    outcome_unsettled ended =
        is ended ∙ sym (ap (λ (r : Result ℕ RedoStop). repair_from given r (settled (pair_of old))) (answered why answers (subst HasEnded (is ended) ended)))

    pub says_unsettled : (told : Option (List ℕ)) (before medium side : List ℕ) → Says told before (text_of side (refused_log why)) result
        → Says told before (repair_said given medium side (pair_of old)) result
    unfolding repair_said text_of
    says_unsettled told before medium side says = by_stop why answers is says where
      said : (w : RedoStop) → replaying (pair_of old) ≡ Err w → text_of side (refused_log w) ≡ said_from given medium side (replaying (pair_of old)) (settled (pair_of old))
      said w e = sym (ap (λ (r : Result ℕ RedoStop). said_from given medium side r (settled (pair_of old))) e)

      by_stop : (w : RedoStop) → Answers {T = ℕ} (replaying (pair_of old)) (Err w) → (HasEnded result → result ≡ refused_log w) → Says told before (text_of side (refused_log w)) result
          → Says told before (said_from given medium side (replaying (pair_of old)) (settled (pair_of old))) result
      by_stop stop.NotALog e i s = says_same told before _ _ result (said stop.NotALog e) s
      by_stop stop.BadLog e i s = says_same told before _ _ result (said stop.BadLog e) s
      by_stop (stop.WrongImage clash) e i s = says_same told before _ _ result (said (stop.WrongImage clash) e) s
      by_stop stop.Fault e i s = says_failed told before _ result (front_of_none told before _ s.front) (λ ended. subst HasEnded (i ended) ended)
      by_stop stop.Memory e i s = says_failed told before _ result (front_of_none told before _ s.front) (λ ended. subst HasEnded (i ended) ended)

  -- what was said where so many blocks were replayed
  module _ (replayed : ℕ) (answer : replaying (pair_of old) ≡ Ok replayed) where
    said_is : (medium side : List ℕ) → replayed_text medium replayed ++ said_sized (size_of given (settled (pair_of old))) medium (settled (pair_of old)) ≡ repair_said given medium side (pair_of old)
    unfolding repair_said
    said_is medium side = sym (ap (λ (r : Result ℕ RedoStop). said_from given medium side r (settled (pair_of old))) answer)

    pub says_stopped : (told : Option (List ℕ)) (before medium side : List ℕ) → HoldsFront told before (replayed_text medium replayed) → (HasEnded result → ⊥)
        → Says told before (repair_said given medium side (pair_of old)) result
    says_stopped told before medium side front failed =
        says_same told before _ _ result (said_is medium side) (says_failed told before _ result (first_held told before _ _ front) failed)

    pub says_mended : (told : Option (List ℕ)) (before medium side : List ℕ) → Says told (before ++ replayed_text medium replayed) (said_sized (size_of given (settled (pair_of old))) medium (settled (pair_of old))) result
        → Says told before (repair_said given medium side (pair_of old)) result
    says_mended told before medium side says = says_same told before _ _ result (said_is medium side) (says_then told before _ _ result says)

-- what a repair beside the side file of this name says
pub said_as : (wanted : Option (List ℕ)) (given : Option ℕ) (medium name side : List ℕ) (pair : Pair) → Some name ≡ wanted → side ≡ name → bytes_eq side medium ≡ false
    → repair_said given medium side pair ≡ said_beside wanted given medium pair
said_as wanted given medium name side pair is same apart =
    sym (ap (λ (b : Bool). cond b (text_of medium outcome.SameFile) (repair_said given medium side pair)) apart)
    ∙ ap (λ (n : List ℕ). said_beside (Some n) given medium pair) same
    ∙ ap (λ (o : Option (List ℕ)). said_beside o given medium pair) is

-- an accepted image is repaired
accepted_ends : (size replayed : ℕ) (image : List ℕ) → is_accepted size image ≡ true → HasRepairedOrFailed (mend_of size replayed image)
accepted_ends size replayed image accepted = by_opened (repairing size image) refl where
  by_findings : (k : ℕ) (findings : List Finding) (written : ℕ) → HasRepairedOrFailed (repaired_as k findings written)
  by_findings zero [] written = tt
  by_findings zero (finding ∷ rest) written = tt
  by_findings (suc k) findings written = tt

  by_opened : (found : Result Volume Missing) → repairing size image ≡ found → HasRepairedOrFailed (mend_of size replayed image)
  by_opened (Ok volume) e = subst HasRepairedOrFailed (sym (mend_ok size image replayed volume e)) (by_findings replayed (found_at size image) (written_in size image))
  by_opened (Err missing) e = absurd (let no : true ≡ false = sym accepted ∙ not_accepted size image missing e in cc)

-- what was repaired was accepted
repaired_accepted : (size replayed : ℕ) (image : List ℕ) → HasRepaired (mend_of size replayed image) → is_accepted size image ≡ true
repaired_accepted size replayed image repaired = by_opened (repairing size image) refl where
  by_opened : (found : Result Volume Missing) → repairing size image ≡ found → is_accepted size image ≡ true
  by_opened (Ok volume) e = accepted_ok size image volume e
  by_opened (Err missing) e = absurd (subst HasRepaired (mend_refused size image replayed missing e) repaired)

-- The whole: `middle` is after the replay, `end` after the difference was written.
module _ (given : Option ℕ) (size replayed : ℕ) (old middle end : Held) (result : Outcome) (sized : size_of given (settled (pair_of old)) ≡ Some size)
    (known : is_size size ≡ true) (bytes : IsBytes (settled (pair_of old))) (has : HasBegun given old middle)
    (answer : replaying (pair_of old) ≡ Ok replayed) (moments : CanGoOn (pair_of old) → LeavesOnly old middle (IsSettling (pair_of old)))
    (image_is : bytes_of Image middle ≡ settled (pair_of old)) (free : IsFree (bytes_of Side middle)) (rests : IsSynced middle)
    (mends : Mends size replayed middle end result) where
  can : CanGoOn (pair_of old)
  can = can_go (bytes_of Image old) (bytes_of Side old) replayed answer

  here : IsSettling (pair_of old) (pair_of middle)
  here = let all = moments can in all.each (pair_of middle) (now_counts middle (moment old) (pair_of middle) all.later (seen_now middle))

  safe : LeavesOnly old end (IsSafe given (pair_of old))
  safe =
      leaves_then old middle end (IsSafe given (pair_of old)) has.safe
      (leaves_weaker middle end (IsMending size (settled (pair_of old)) (mend size (settled (pair_of old)))) (IsSafe given (pair_of old))
      (λ pair is. safe_mending given size (pair_of old) sized pair can (pair_of middle) known bytes image_is here is)
      (subst (λ (v : List ℕ). LeavesOnly middle end (IsMending size v (mend size v))) image_is mends.moments))

  is_mend : HasEnded result → result ≡ mend_of size replayed (settled (pair_of old))
  is_mend ended = mends.outcome ended ∙ ap (mend_of size replayed) image_is

  pub outcome_mended : HasEnded result → result ≡ repair_of given (pair_of old)
  unfolding repair_of
  outcome_mended ended =
      is_mend ended
      ∙ sym (ap (λ (found : Option ℕ). mend_sized found replayed (settled (pair_of old))) sized)
      ∙ sym (ap (λ (r : Result ℕ RedoStop). repair_from given r (settled (pair_of old))) answer)

  done : HasRepaired result → IsDone given (pair_of old) end
  done repaired =
      let j = settled (pair_of old) in
      let accepted = repaired_accepted size replayed j (subst HasRepaired (is_mend (ended_repaired result repaired)) repaired) in
      let is : IsMended (mend size j) end = subst (λ (v : List ℕ). IsMended (mend size v) end) image_is (mends.done repaired) in
      let kept : size_of given (bytes_of Image end) ≡ Some size = ap (size_of given) is.holds ∙ size_stays size j known bytes given sized in record {
        holds = is.holds ∙ sym (target_goes (bytes_of Image old) (bytes_of Side old) given can ∙ sized_mend given size j sized);
        accepted = ap (λ (found : Option ℕ). accepted_by found (bytes_of Image end)) kept ∙ ap (is_accepted size) is.holds ∙ accepted_after size j known bytes accepted;
        unbroken = ap (λ (found : Option ℕ). unbroken_by found (bytes_of Image end)) kept ∙ ap (is_unbroken size) is.holds ∙ unbroken_after size j known bytes accepted;
        paths = λ steps intact. subst (λ (after : List ℕ). KeepsPathAs given j after steps) (sized_mend given size j sized ∙ sym is.holds) (mend_keeps_as given size j known bytes sized steps intact);
        side = is.side;
        synced = is.synced;
      }

  replayed_to : end ≡ middle → IsReplayed (pair_of old) end
  replayed_to same = record {
    holds = ap (λ (h : Held). bytes_of Image h) same ∙ image_is;
    side = subst (λ (h : Held). IsFree (bytes_of Side h)) (sym same) free;
    synced = subst (λ (h : Held). IsSynced h) (sym same) rests;
  }

  pub repairs_mended : Repairs given old end result
  repairs_mended = record {
    moments = safe;
    complete = λ go accepted.
        let j = settled (pair_of old) in
        ended_as result (mend_of size replayed j) is_mend
        (accepted_ends size replayed j (sym (ap (λ (found : Option ℕ). accepted_by found j) sized) ∙ accepted));
    done = done;
    still = λ none unbroken.
        let same = has.still none in
        let here : bytes_of Image old ≡ settled (pair_of old) = sym (ap (λ (h : Held). bytes_of Image h) same) ∙ image_is in
        let found : size_of given (bytes_of Image old) ≡ Some size = ap (size_of given) here ∙ sized in
        mends.unbroken
        (ap (λ (h : Held). is_unbroken size (bytes_of Image h)) same ∙ sym (ap (λ (f : Option ℕ). unbroken_by f (bytes_of Image old)) found) ∙ unbroken)
        ∙ same;
    refused = λ none not. mends.unopened (no_gate result not) ∙ has.still none;
    settled_only = λ missing e. replayed_to (mends.unopened (subst HasOpenedNoGate (sym e) tt));
    replayed_only = λ none. inr (replayed_to (mends.unopened none));
    unopened = λ unopened.
        subst (λ (h : Held). LeavesOnly old h (λ pair. settled pair ≡ settled (pair_of old))) (sym (mends.unopened unopened)) has.stands;
  }

-- No block size: `middle` is after the replay, and the rest reads alone.
module _ (given : Option ℕ) (replayed : ℕ) (old middle : Held) (result : Outcome) (has : HasBegun given old middle)
    (answer : replaying (pair_of old) ≡ Ok replayed) (image_is : bytes_of Image middle ≡ settled (pair_of old)) (free : IsFree (bytes_of Side middle))
    (rests : IsSynced middle) (why : LayerStop) (sizes : Sizes given (settled (pair_of old)) (Err why)) (is : HasEnded result → result ≡ refused_size why) where
  abbrev j : List ℕ
  j = settled (pair_of old)

  not_ended_unsized : (w : LayerStop) → Sizes given j (Err w) → is_accepted_as given j ≡ true → HasEnded (refused_size w) → ⊥
  not_ended_unsized (size_stop.Missing missing) s accepted ended =
      absurd (let no : false ≡ true = sym (ap (λ (found : Option ℕ). accepted_by found j) s.0) ∙ accepted in cc)
  not_ended_unsized size_stop.Fault s accepted ended = ended
  not_ended_unsized size_stop.Memory s accepted ended = ended

  not_repaired_unsized : (w : LayerStop) → HasRepaired (refused_size w) → ⊥
  not_repaired_unsized (size_stop.Missing missing) h = h
  not_repaired_unsized size_stop.Fault h = h
  not_repaired_unsized size_stop.Memory h = h

  stays_replayed : IsReplayed (pair_of old) middle
  stays_replayed = record { holds = image_is; side = free; synced = rests }

  pub repairs_unsized : Repairs given old middle result
  repairs_unsized = record {
    moments = has.safe;
    complete = λ can accepted. failed_or result (λ ended. not_ended_unsized why sizes accepted (subst HasEnded (is ended) ended));
    done = λ repaired. absurd (not_repaired_unsized why (subst HasRepaired (is (ended_repaired result repaired)) repaired));
    still = λ none unbroken. has.still none;
    refused = λ none not. has.still none;
    settled_only = λ missing e. stays_replayed;
    unopened = λ unopened. has.stands;
    replayed_only = λ none. inr stays_replayed;
  }

  refused_as : (w : LayerStop) → Sizes given j (Err w) → HasEnded (refused_size w) → refused_size w ≡ mend_sized (size_of given j) replayed j
  refused_as (size_stop.Missing missing) s ended =
      ap outcome.Refused s.1 ∙ sym (ap (λ (found : Option ℕ). mend_sized found replayed j) s.0)
  refused_as size_stop.Fault s ended = absurd ended
  refused_as size_stop.Memory s ended = absurd ended

  pub outcome_unsized : HasEnded result → result ≡ repair_of given (pair_of old)
  unfolding repair_of
  outcome_unsized ended =
      is ended ∙ refused_as why sizes (subst HasEnded (is ended) ended)
      ∙ sym (ap (λ (r : Result ℕ RedoStop). repair_from given r j) answer)

  pub says_unsized : (told : Option (List ℕ)) (before medium side : List ℕ)
      → Says told (before ++ replayed_text medium replayed) (text_of medium (refused_size why)) result
      → Says told before (repair_said given medium side (pair_of old)) result
  unfolding text_of
  says_unsized told before medium side says = says_mended given old middle has result replayed answer told before medium side (by_stop why sizes is says) where
    front : List ℕ
    front = before ++ replayed_text medium replayed

    by_stop : (w : LayerStop) → Sizes given j (Err w) → (HasEnded result → result ≡ refused_size w) → Says told front (text_of medium (refused_size w)) result
        → Says told front (said_sized (size_of given j) medium j) result
    by_stop (size_stop.Missing missing) s i says =
        says_same told front _ _ result
        (ap (λ (m : Missing). text_of medium (outcome.Refused m)) s.1 ∙ sym (ap (λ (found : Option ℕ). said_sized found medium j) s.0)) says
    by_stop size_stop.Fault s i says = says_failed told front _ result (front_of_none told front _ says.front) (λ ended. subst HasEnded (i ended) ended)
    by_stop size_stop.Memory s i says = says_failed told front _ result (front_of_none told front _ says.front) (λ ended. subst HasEnded (i ended) ended)
