-- The turns of the loops that write the recorded blocks.
use Rattle.std.proofs.Common.{◌≡◌, ◌≤◌, ℕ, ◌+◌, ◌*◌, List, length, drop, get_or, sym, ◌∙◌, ap, subst, arith, Result, Some, slice_get}
use Rattle.udf_outside.specs.declared.bench.Role.TheVariants.{Image, Side}
use Rattle.udf_outside.specs.Stops.{Held, Pair, part_of, bytes_of, pair_of, moment, IsSynced, LeavesOnly, Writes, Syncs}
use Rattle.udf_outside.specs.Run.{Runs}
use Rattle.udf_outside.proofs.Moments.{seen_now, now_counts}
use Rattle.udf_outside.proofs.Runs.{runs_start, runs_write, runs_sync, runs_quiet, leaves_weaker, leaves_then}
use Rattle.udf_redo.specs.Log.{Edit}
use Rattle.udf_redo.specs.Log.{head_in, sealed_in, records_in, records_of}
use Rattle.udf_redo.specs.Settled.{applied_to, IsOpenLog}
use Rattle.udf_redo.specs.Runs.{IsApplying, IsClosing}
use Rattle.udf_redo.specs.declared.head.LogHead.{LogHead}
use Rattle.udf_redo.proofs.Lawful.{FitsIn, open_fits}
use Rattle.udf_redo.proofs.Writing.{edit_at}
use Rattle.udf_redo.proofs.Applying.{IsNear, near_start, near_step, near_log, near_applying}

module _ (start : Held) (log : IsOpenLog (bytes_of Side start) (bytes_of Image start)) where
  abbrev pub Near : Pair → Type 0
  Near = IsNear (bytes_of Side start) (bytes_of Image start)

  pub begin : IsSynced start → Runs start start Near Near
  begin settled =
      runs_start start Near Near (λ pair now. let is = settled pair now in near_start (bytes_of Side start) (bytes_of Image start) log pair (ap (λ (p : Pair). p.0) is) (ap (λ (p : Pair). p.1) is)) (λ pair near. near)

  pub turn : (now new : Held) (k : ℕ) (edit : Edit) {T E : Type 0} (result : Result T E) → slice_get (records_of (bytes_of Side start)) k ≡ Some edit → Runs start now Near Near
      → edit.0 * (head_in (bytes_of Side start)).size ≤ length (bytes_of Image now) → Writes Image (edit.0 * (head_in (bytes_of Side start)).size) edit.1 now new result → Runs start new Near Near
  turn now new k edit result got runs within writes =
      runs_write start now new Near Near Near Image (edit.0 * (head_in (bytes_of Side start)).size) edit.1 result runs within writes
      (λ before pair near torn same. near_step (bytes_of Side start) (bytes_of Image start) log k edit before pair got near torn (sym same)) (λ pair near. near)

  pub synced : (now new : Held) {T E : Type 0} (result : Result T E) → Runs start now Near Near → Syncs Image now new result → Runs start new Near Near
  synced now new result runs syncs = runs_sync start now new Near Near Image result runs syncs (λ pair near. near)

  pub applying : (now : Held) → Runs start now Near Near → LeavesOnly start now (IsApplying (bytes_of Side start) (bytes_of Image start))
  applying now runs = leaves_weaker start now Near (IsApplying (bytes_of Side start) (bytes_of Image start)) (near_applying (bytes_of Side start) (bytes_of Image start) log) runs.leaves

  pub keeps_side : (now : Held) → Runs start now Near Near → LeavesOnly start now (λ pair. part_of Side pair ≡ bytes_of Side start)
  keeps_side now runs = leaves_weaker start now Near (λ pair. part_of Side pair ≡ bytes_of Side start) (λ pair near. near.same_side) runs.leaves

  -- of what reads give
  pub near_now : (now : Held) → Runs start now Near Near → IsNear (bytes_of Side start) (bytes_of Image start) (pair_of now)
  near_now now runs = runs.ends (pair_of now) (seen_now now)

  pub log_now : (now : Held) → Runs start now Near Near → IsOpenLog (bytes_of Side start) (bytes_of Image now)
  log_now now runs = near_log (bytes_of Side start) (bytes_of Image start) log (pair_of now) (near_now now runs)

  -- the same for a block of this size in a list of these blocks, as a caller knows them
  pub block_turn : (now new : Held) (size : ℕ) (edits : List Edit) (k : ℕ) (edit : Edit) {T E : Type 0} (result : Result T E) → (head_in (bytes_of Side start)).size ≡ size → records_of (bytes_of Side start) ≡ edits
      → slice_get edits k ≡ Some edit → Runs start now Near Near → edit.0 * size ≤ length (bytes_of Image now) → Writes Image (edit.0 * size) edit.1 now new result → Runs start new Near Near
  block_turn now new size edits k edit result size_is edits_are got runs within writes =
      let place = subst (λ (n : ℕ). edit.0 * n ≤ length (bytes_of Image now)) (sym size_is) within in
      let there = subst (λ (n : ℕ). Writes Image (edit.0 * n) edit.1 now new result) (sym size_is) writes in
      turn now new k edit result (subst (λ (q : List Edit). slice_get q k ≡ Some edit) (sym edits_are) got) runs place there

  pub quiet : (now new : Held) → Runs start now Near Near → new ≡ now → Runs start new Near Near
  quiet now new runs same = runs_quiet start now new Near Near runs same

  module _ (head : LogHead) (same : head_in (bytes_of Side start) ≡ head) where
    -- the record that was read at a place
    pub record_is : (now : Held) (k : ℕ) (edit : Edit) → bytes_of Side now ≡ bytes_of Side start → slice_get (records_in head.size head.records (drop 61 (bytes_of Side now))) k ≡ Some edit
        → slice_get (records_of (bytes_of Side start)) k ≡ Some edit
    record_is now k edit side got =
        subst (λ (h : LogHead). slice_get (records_in h.size h.records (drop 61 (bytes_of Side start))) k ≡ Some edit) (sym same)
        (subst (λ (s : List ℕ). slice_get (records_in head.size head.records (drop 61 s)) k ≡ Some edit) side got)

    -- it lies in the image
    pub record_inside : (k : ℕ) (edit : Edit) → slice_get (records_of (bytes_of Side start)) k ≡ Some edit → edit.0 * head.size + length edit.1 ≤ length (bytes_of Image start)
    record_inside k edit got =
        let fits : FitsIn (head_in (bytes_of Side start)).size (length (bytes_of Image start)) edit =
        edit_at (FitsIn (head_in (bytes_of Side start)).size (length (bytes_of Image start))) (records_of (bytes_of Side start)) k edit (open_fits (bytes_of Side start) (bytes_of Image start) log) got in
        let there : FitsIn head.size (length (bytes_of Image start)) edit = subst (λ (h : LogHead). FitsIn h.size (length (bytes_of Image start)) edit) same fits in
        omega (arith, there.0, there.1)

  -- nothing was written yet
  pub quiet_applying : (new : Held) → IsSynced start → new ≡ start → LeavesOnly start new (IsApplying (bytes_of Side start) (bytes_of Image start))
  quiet_applying new settled same = applying new (quiet start new (begin settled) same)

-- all blocks were written, and then the gate is closed
pub then_closing : (start middle end : Held) → LeavesOnly start middle (IsApplying (bytes_of Side start) (bytes_of Image start)) → bytes_of Image middle ≡ applied_to (bytes_of Side start) (bytes_of Image start)
    → LeavesOnly middle end (IsClosing (bytes_of Side middle) (bytes_of Image middle)) → LeavesOnly start end (IsApplying (bytes_of Side start) (bytes_of Image start))
then_closing start middle end first done second =
    let side = bytes_of Side start in
    let image = bytes_of Image start in
    let here : IsApplying side image (pair_of middle) = first.each (pair_of middle) (now_counts middle (moment start) (pair_of middle) first.later (seen_now middle)) in
    let weaker : (pair : Pair) → IsClosing (bytes_of Side middle) (bytes_of Image middle) pair → IsApplying side image pair = λ pair closing. record {
      same_length = ap length closing.same_image ∙ here.same_length;
      same_head = closing.same_head ∙ here.same_head;
      same_seal = ap (λ (v : List ℕ). sealed_in (head_in side) v) closing.same_image ∙ here.same_seal;
      same_elsewhere = λ i out. ap (λ (v : List ℕ). get_or v i 0) closing.same_image ∙ here.same_elsewhere i out;
      goes_on = closing.goes_on;
      stands_for = closing.stands_for ∙ done;
    } in
    leaves_then start middle end (IsApplying side image) first (leaves_weaker middle end (IsClosing (bytes_of Side middle) (bytes_of Image middle)) (IsApplying side image) weaker second)
