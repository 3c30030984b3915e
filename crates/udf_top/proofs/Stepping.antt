-- What the steps of writing a plan leave of the files.
use Rattle.std.proofs.Common.{◌≡◌, inl, inr, ⊎_elim, ◌<◌, ℕ, List, length, get_or, sym, ◌∙◌, ap, subst, Result, Ok, Err, OnOk}
use Rattle.udf_outside.specs.declared.bench.Role.TheVariants.{Image, Side}
use Rattle.udf_outside.specs.Stops.{Held, Pair, bytes_of, pair_of, moment, IsSynced, LeavesOnly}
use Rattle.udf_outside.proofs.Moments.{seen_now, now_counts}
use Rattle.udf_outside.proofs.Runs.{leaves_weaker, leaves_then}
use Rattle.udf_volume_model.specs.Opened.{plan_of}
use Rattle.udf_volume_model.specs.Edits.{put_blocks}
use Rattle.udf_volume_model.specs.Plans.{ClimbsFrom, IsRewrite}
use Rattle.udf_volume_laws.proofs.Applied.{plan_gives}
use Rattle.udf_redo.specs.declared.side.SideState.TheVariants.{Closed}
use Rattle.udf_redo.specs.Log.{Edit, head_in, records_of, sealed_in, opened, state_of}
use Rattle.udf_redo.specs.Settled.{settled, applied_to, IsOpenLog, IsFree, IsElsewhere}
use Rattle.udf_redo.specs.Runs.{IsLogging, IsOpening, IsApplying, IsClosing}
use Rattle.udf_redo.proofs.Lawful.{open_fits}
use Rattle.udf_redo.proofs.Placed.{placed}
use Rattle.udf_redo.proofs.Gates.{some_opened}
use Rattle.udf_redo.proofs.States.{same_head, same_records, same_applied}
use Rattle.udf_redo.specs.declared.head.LogHead.{LogHead}
use Rattle.udf_top.specs.Steps.{IsMending, IsMended}

-- the log of the plan, applied, makes the image afterwards
pub applied_is : (size : ℕ) (image after side : List ℕ) → 0 < size → IsRewrite size image after → IsOpenLog side image → (head_in side).size ≡ size
    → records_of side ≡ plan_of size image after → ClimbsFrom 0 (records_of side) → applied_to side image ≡ after
applied_is size image after side some rewrites log size_is records up =
    placed (head_in side).size 0 (records_of side) image up (open_fits side image log)
    ∙ ap (λ (n : ℕ). put_blocks n (records_of side) image) size_is
    ∙ ap (λ (edits : List Edit). put_blocks size edits image) records
    ∙ plan_gives size image after some rewrites

module _ (size : ℕ) (image after : List ℕ) where
  pub logging : (pair : Pair) → IsLogging image pair → IsMending size image after pair
  logging pair is = record {
    goes_on = is.goes_on;
    stands_for = inl is.stands_for;
    same_length = ap length is.same_image;
    same_seal = ap (sealed_in (head_in pair.1)) is.same_image;
    same_elsewhere = λ i out. ap (λ (v : List ℕ). get_or v i 0) is.same_image;
  }

  pub opening : (side : List ℕ) → applied_to side image ≡ after → (pair : Pair) → IsOpening side image pair → IsMending size image after pair
  opening side done pair is = record {
    goes_on = is.goes_on;
    stands_for = ⊎_elim (λ same. inl same) (λ put. inr (put ∙ done)) is.stands_for;
    same_length = ap length is.same_image;
    same_seal = ap (sealed_in (head_in pair.1)) is.same_image;
    same_elsewhere = λ i out. ap (λ (v : List ℕ). get_or v i 0) is.same_image;
  }

  pub applying : (side : List ℕ) → (head_in side).size ≡ size → records_of side ≡ plan_of size image after
      → applied_to side image ≡ after → (pair : Pair) → IsApplying side image pair → IsMending size image after pair
  applying side size_is records done pair is = record {
    goes_on = is.goes_on;
    stands_for = inr (is.stands_for ∙ done);
    same_length = is.same_length;
    same_seal = ap (λ (h : LogHead). sealed_in h pair.0) is.same_head ∙ is.same_seal ∙ ap (λ (h : LogHead). sealed_in h image) (sym is.same_head);
    same_elsewhere = λ i out. is.same_elsewhere i
        (subst (λ (n : ℕ). IsElsewhere n (records_of side) i) (sym size_is) (subst (λ (edits : List Edit). IsElsewhere size edits i) (sym records) out));
  }

  pub closing : (here : Pair) → here.0 ≡ after → IsMending size image after here → (pair : Pair) → IsClosing here.1 here.0 pair → IsMending size image after pair
  closing here done stands pair is = record {
    goes_on = is.goes_on;
    stands_for = inr (is.stands_for ∙ done);
    same_length = ap length is.same_image ∙ stands.same_length;
    same_seal = ap (λ (h : LogHead). sealed_in h pair.0) is.same_head ∙ ap (sealed_in (head_in here.1)) is.same_image ∙ stands.same_seal
        ∙ ap (λ (h : LogHead). sealed_in h image) (sym is.same_head);
    same_elsewhere = λ i out. ap (λ (v : List ℕ). get_or v i 0) is.same_image ∙ stands.same_elsewhere i out;
  }

  -- nothing was written
  pub resting : (pair : Pair) → pair.0 ≡ image → IsFree pair.1 → settled pair ≡ image → IsMending size image after pair
  resting pair same free stands = record {
    goes_on = inl free;
    stands_for = inl stands;
    same_length = ap length same;
    same_seal = ap (sealed_in (head_in pair.1)) same;
    same_elsewhere = λ i out. ap (λ (v : List ℕ). get_or v i 0) same;
  }

-- what is known of a plan that was written as a log behind a closed gate
pub record IsWritten (size : ℕ) (image after side : List ℕ) : Type 0 where
  pub some : 0 < size
  pub rewrites : IsRewrite size image after
  pub log : IsOpenLog (opened side) image
  pub size_is : (head_in side).size ≡ size
  pub records : records_of side ≡ plan_of size image after
  pub up : ClimbsFrom 0 (records_of side)

pub written_applied : (size : ℕ) (image after side : List ℕ) → IsWritten size image after side → applied_to side image ≡ after
written_applied size image after side is =
    let some = some_opened side image is.log in
    let same : records_of (opened side) ≡ records_of side = same_records side 0x4F some in
    sym (same_applied side image 0x4F some)
    ∙ applied_is size image after (opened side) is.some is.rewrites is.log (ap (λ (h : LogHead). h.size) (same_head side 0x4F some) ∙ is.size_is) (same ∙ is.records)
    (subst (λ (edits : List Edit). ClimbsFrom 0 edits) (sym same) is.up)

-- The moments of writing a plan, step by step. `logged` is after the log was written, `open` after the gate was opened, `put`
-- after the blocks were written.
module _ (size : ℕ) (after : List ℕ) (start logged : Held) (is : IsWritten size (bytes_of Image start) after (bytes_of Side logged))
    (log_image : bytes_of Image logged ≡ bytes_of Image start)
    (logging_leaves : LeavesOnly start logged (IsLogging (bytes_of Image start))) where
  abbrev image : List ℕ
  image = bytes_of Image start

  abbrev pub Mending : Pair → Type 0
  Mending = IsMending size (bytes_of Image start) after

  -- the gate was opened, or a stop came
  pub until_open : (end : Held) → LeavesOnly logged end (IsOpening (bytes_of Side logged) (bytes_of Image logged)) → LeavesOnly start end Mending
  until_open end leaves =
      leaves_then start logged end Mending
      (leaves_weaker start logged (IsLogging image) Mending (logging size image after) logging_leaves)
      (leaves_weaker logged end (IsOpening (bytes_of Side logged) image) Mending
      (opening size image after (bytes_of Side logged) (written_applied size image after (bytes_of Side logged) is))
      (subst (λ (v : List ℕ). LeavesOnly logged end (IsOpening (bytes_of Side logged) v)) log_image leaves))

  module _ (gated : Held) (gate_side : bytes_of Side gated ≡ opened (bytes_of Side logged)) (gate_image : bytes_of Image gated ≡ bytes_of Image logged)
      (gate_leaves : LeavesOnly logged gated (IsOpening (bytes_of Side logged) (bytes_of Image logged))) where
    some : 0 < length (bytes_of Side logged)
    some = some_opened (bytes_of Side logged) image is.log

    open_size : (head_in (bytes_of Side gated)).size ≡ size
    open_size = ap (λ (s : List ℕ). (head_in s).size) gate_side ∙ ap (λ (h : LogHead). h.size) (same_head (bytes_of Side logged) 0x4F some) ∙ is.size_is

    open_records : records_of (bytes_of Side gated) ≡ plan_of size image after
    open_records = ap (λ (s : List ℕ). records_of s) gate_side ∙ same_records (bytes_of Side logged) 0x4F some ∙ is.records

    still_image : bytes_of Image gated ≡ image
    still_image = gate_image ∙ log_image

    pub open_applied : applied_to (bytes_of Side gated) (bytes_of Image gated) ≡ after
    open_applied =
        ap (λ (v : List ℕ). applied_to (bytes_of Side gated) v) still_image
        ∙ ap (λ (s : List ℕ). applied_to s image) gate_side
        ∙ same_applied (bytes_of Side logged) image 0x4F some
        ∙ written_applied size image after (bytes_of Side logged) is

    -- the blocks were written, or a stop came
    pub until_put : (end : Held) → LeavesOnly gated end (IsApplying (bytes_of Side gated) (bytes_of Image gated)) → LeavesOnly start end Mending
    until_put end leaves =
        leaves_then start gated end Mending (until_open gated gate_leaves)
        (leaves_weaker gated end (IsApplying (bytes_of Side gated) image) Mending
        (applying size image after (bytes_of Side gated) open_size open_records (ap (λ (v : List ℕ). applied_to (bytes_of Side gated) v) (sym still_image) ∙ open_applied))
        (subst (λ (v : List ℕ). LeavesOnly gated end (IsApplying (bytes_of Side gated) v)) still_image leaves))

    -- the gate was closed, or a stop came
    pub until_closed : (put end : Held) → LeavesOnly gated put (IsApplying (bytes_of Side gated) (bytes_of Image gated))
        → bytes_of Image put ≡ applied_to (bytes_of Side gated) (bytes_of Image gated) → LeavesOnly put end (IsClosing (bytes_of Side put) (bytes_of Image put)) → LeavesOnly start end Mending
    until_closed put end leaves done closes =
        let before : LeavesOnly start put Mending = until_put put leaves in
        let here : Mending (pair_of put) = before.each (pair_of put) (now_counts put (moment start) (pair_of put) before.later (seen_now put)) in
        leaves_then start put end Mending before
        (leaves_weaker put end (IsClosing (bytes_of Side put) (bytes_of Image put)) Mending (closing size image after (pair_of put) (done ∙ open_applied) here) closes)

pub done_on : {T E : Type 0} (result : Result T E) (after : List ℕ) (end : Held) → bytes_of Image end ≡ after
    → OnOk result (state_of (bytes_of Side end) ≡ Ok Closed) → OnOk result (IsSynced end) → OnOk result (IsMended after end)
done_on (Ok x) after end holds closed synced = record { holds = holds; side = inr closed; synced = synced }
done_on (Err e) after end holds closed synced = tt
