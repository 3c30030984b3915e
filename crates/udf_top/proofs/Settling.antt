-- What a side file asks of a repair, and what a replay leaves of the files.
use Rattle.std.proofs.Common.{◌≡◌, ◌≢◌, inl, inr, ℕ, ◌==◌, List, [], refl, sym, ◌∙◌, ap, subst, true, Option, Some, None, Result, Ok, Err, OnOk}
use Rattle.std.specs.Str.{bytes_eq}
use Rattle.std.proofs.lemmas.Bool.{cond-true, and_parts, eqb-true}
use Rattle.udf_model.specs.Image.{blocks_in}
use Rattle.udf_outside.specs.declared.bench.Role.TheVariants.{Image, Side}
use Rattle.udf_outside.specs.Stops.{Held, Pair, bytes_of, pair_of, IsSynced, LeavesOnly}
use Rattle.udf_outside.proofs.Runs.{leaves_same, leaves_weaker}
use Rattle.udf_redo.specs.declared.head.LogHead.{LogHead}
use Rattle.udf_redo.specs.declared.side.SideState.{SideState}
use Rattle.udf_redo.specs.declared.side.SideState.TheVariants.{Empty, Closed, Open}
use Rattle.udf_redo.specs.declared.stop.RedoStop.{RedoStop}
use Rattle.udf_redo.specs.declared.stop.RedoStop.TheVariants as stop
use Rattle.udf_redo.specs.declared.stop.Clash.{Clash}
use Rattle.udf_redo.specs.Log.{Edit, head_in, records_of, state_of, sealed_in, seal_of, is_log_of}
use Rattle.udf_redo.specs.Settled.{settled, settled_by, applied_to, clash_in, answer_by, replay_answer, IsOpenLog, IsFree, CanGoOn, IsElsewhere}
use Rattle.udf_redo.specs.Faults.{Answers}
use Rattle.udf_redo.specs.Runs.{IsApplying}
use Rattle.udf_redo.proofs.Clashes.{open_without, no_clash}
use Rattle.udf_redo.proofs.States.{settled_open}
use Rattle.udf_top.specs.Repairing.{replaying, replaying_by, logged, logged_by}
use Rattle.udf_top.specs.Steps.{IsSettling}

-- a log of the image has no clash
no_clash_in : (head : LogHead) (image : List ℕ) → is_log_of head image ≡ true → clash_in head image ≡ None
unfolding is_log_of
no_clash_in head image is =
    let parts = and_parts (blocks_in head.size image == head.blocks) (bytes_eq (seal_of head image) head.seal) is in
    no_clash head image (eqb-true _ _ parts.0) parts.1

-- the side file by its state
module _ (image side : List ℕ) where
  pub replaying_as : (state : Result SideState RedoStop) → state_of side ≡ state → replaying (image, side) ≡ replaying_by state image
  unfolding replaying
  replaying_as state e = ap (λ (s : Result SideState RedoStop). replaying_by s image) e

  settled_as : (state : Result SideState RedoStop) → state_of side ≡ state → settled (image, side) ≡ settled_by state side image
  unfolding settled
  settled_as state e = ap (λ (s : Result SideState RedoStop). settled_by s side image) e

  pub replaying_empty : state_of side ≡ Ok Empty → replaying (image, side) ≡ Ok 0
  replaying_empty e = replaying_as (Ok Empty) e

  pub replaying_closed : state_of side ≡ Ok Closed → replaying (image, side) ≡ Ok 0
  replaying_closed e = replaying_as (Ok Closed) e

  pub replaying_free : IsFree side → replaying (image, side) ≡ Ok 0
  replaying_free (inl e) = replaying_empty e
  replaying_free (inr e) = replaying_closed e

  pub settled_empty : state_of side ≡ Ok Empty → settled (image, side) ≡ image
  settled_empty e = settled_as (Ok Empty) e

  pub settled_closed : state_of side ≡ Ok Closed → settled (image, side) ≡ image
  settled_closed e = settled_as (Ok Closed) e

  pub settled_free : IsFree side → settled (image, side) ≡ image
  settled_free (inl e) = settled_empty e
  settled_free (inr e) = settled_closed e

  -- the same answer, where none is given but a fault or want of memory
  pub refused_state : (why : RedoStop) → Answers {T = SideState} (state_of side) (Err why) → Answers {T = ℕ} (replaying (image, side)) (Err why)
  refused_state stop.NotALog e = replaying_as (Err stop.NotALog) e
  refused_state stop.BadLog e = replaying_as (Err stop.BadLog) e
  refused_state (stop.WrongImage clash) e = replaying_as (Err (stop.WrongImage clash)) e
  refused_state stop.Fault e = tt
  refused_state stop.Memory e = tt

  module _ (head : LogHead) (state : state_of side ≡ Ok (Open head)) where
    pub replaying_open : replaying (image, side) ≡ replay_answer head image
    replaying_open = replaying_as (Ok (Open head)) state

    by_clash : (found : Option Clash) (k : ℕ) → clash_in head image ≡ found → answer_by head found ≡ Ok k → IsOpenLog side image
    by_clash None k is e = open_without side image head state is
    by_clash (Some clash) k is e = absurd (let no : Err (stop.WrongImage clash) ≡ Ok k = e in cc)

    pub open_answered : (k : ℕ) → replay_answer head image ≡ Ok k → IsOpenLog side image
    open_answered k e = by_clash (clash_in head image) k refl e

    pub image_replayed : (v : List ℕ) (result : Result ℕ RedoStop) → Answers (replay_answer head image) result → OnOk result (v ≡ applied_to side image)
        → OnOk result (v ≡ settled (image, side))
    image_replayed v (Ok k) answers is = is ∙ sym (settled_open image side (open_answered k answers))
    image_replayed v (Err why) answers is = tt

    -- a log on which a run can go on is one of the image
    pub open_goes_on : CanGoOn (image, side) → IsOpenLog side image
    open_goes_on (inl (inl empty)) = absurd (let no : Ok (Open head) ≡ Ok Empty = sym state ∙ empty in cc)
    open_goes_on (inl (inr closed)) = absurd (let no : Ok (Open head) ≡ Ok Closed = sym state ∙ closed in cc)
    open_goes_on (inr log) = log

    pub not_open : (IsOpenLog side image → ⊥) → clash_in head image ≢ None
    not_open none is = none (open_without side image head state is)

  pub logged_open : IsOpenLog side image → logged (image, side) ≡ records_of side
  unfolding logged
  logged_open log = by_state (state_of side) log.lawful where
    by_state : (state : Result SideState RedoStop) → state ≡ Ok (Open (head_in side)) → logged_by state (image, side) ≡ records_of side
    by_state state e = ap (λ (s : Result SideState RedoStop). logged_by s (image, side)) e ∙ cond-true (is_log_of (head_in side) image) (records_of side) [] log.same_image

-- an open log of the image is to be replayed
pub replays_log : (image side : List ℕ) → IsOpenLog side image → (k : ℕ) × (replaying (image, side) ≡ Ok k)
replays_log image side log = (
  (head_in side).records,
  replaying_open image side (head_in side) log.lawful ∙ ap (answer_by (head_in side)) (no_clash_in (head_in side) image log.same_image),
)

-- nothing was written
pub rests : (old new : Held) → IsSynced old → new ≡ old → CanGoOn (pair_of old) → LeavesOnly old new (IsSettling (pair_of old))
rests old new settled same goes_on =
    leaves_same old new (IsSettling (pair_of old)) same
    (λ pair now. subst (λ (p : Pair). IsSettling (pair_of old) p) (sym (settled pair now)) (record {
      goes_on = goes_on;
      stands_for = refl;
      same_length = refl;
      same_seal = refl;
      same_elsewhere = λ i out. refl;
    }))

-- the records were written, or a stop came
pub replays : (old new : Held) → IsOpenLog (bytes_of Side old) (bytes_of Image old) → LeavesOnly old new (IsApplying (bytes_of Side old) (bytes_of Image old))
    → LeavesOnly old new (IsSettling (pair_of old))
replays old new log leaves =
    leaves_weaker old new (IsApplying (bytes_of Side old) (bytes_of Image old)) (IsSettling (pair_of old))
    (λ pair is. record {
      goes_on = is.goes_on;
      stands_for = is.stands_for ∙ sym (settled_open (bytes_of Image old) (bytes_of Side old) log);
      same_length = is.same_length;
      same_seal = ap (λ (h : LogHead). sealed_in h pair.0) is.same_head ∙ is.same_seal ∙ ap (λ (h : LogHead). sealed_in h (bytes_of Image old)) (sym is.same_head);
      same_elsewhere = λ i out. is.same_elsewhere i
          (subst (λ (edits : List Edit). IsElsewhere (head_in (bytes_of Side old)).size edits i) (logged_open (bytes_of Image old) (bytes_of Side old) log) out);
    }) leaves

-- what is said of a replay, from the files before the side file was read
pub with_start : (start now : Held) {T E : Type 0} (result : Result T E) (v : List ℕ) → now ≡ start
    → OnOk result (v ≡ applied_to (bytes_of Side now) (bytes_of Image now)) → OnOk result (v ≡ applied_to (bytes_of Side start) (bytes_of Image start))
with_start start now result v same is =
    subst (λ (h : Held). OnOk result (v ≡ applied_to (bytes_of Side h) (bytes_of Image h))) same is

pub from_start : (start now end : Held) → now ≡ start → IsOpenLog (bytes_of Side start) (bytes_of Image start)
    → (IsOpenLog (bytes_of Side now) (bytes_of Image now) → LeavesOnly now end (IsApplying (bytes_of Side now) (bytes_of Image now)))
    → LeavesOnly start end (IsApplying (bytes_of Side start) (bytes_of Image start))
from_start start now end same log leaves =
    subst (λ (h : Held). IsOpenLog (bytes_of Side h) (bytes_of Image h) → LeavesOnly h end (IsApplying (bytes_of Side h) (bytes_of Image h))) same leaves log
