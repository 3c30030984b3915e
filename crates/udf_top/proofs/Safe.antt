-- What a stop leaves of a repair is safe.
use Rattle.std.proofs.Common.{◌≡◌, ◌⊎◌, inl, inr, ⊎_elim, ℕ, true, Option, Some, List, length, get_or, refl, sym, ◌∙◌, ap, subst, Result, Ok, Err}
use Rattle.udf_model.specs.Bytes.{IsBytes}
use Rattle.udf_model.specs.Size.{is_size}
use Rattle.udf_outside.specs.declared.bench.Role.TheVariants.{Image, Side}
use Rattle.udf_outside.specs.Stops.{Held, Pair, bytes_of, pair_of, IsSynced, LeavesOnly}
use Rattle.udf_outside.proofs.Runs.{leaves_same, leaves_weaker}
use Rattle.udf_volume_model.specs.Opened.{plan_of}
use Rattle.udf_mended_image.specs.Accepted.{mend}
use Rattle.udf_volume_model.specs.Size.{size_of}
use Rattle.udf_mended_image.specs.Sized.{mend_as, mend_by}
use Rattle.udf_mended_image.proofs.Repair.{size_stays, twice}
use Rattle.udf_redo.specs.declared.side.SideState.{SideState}
use Rattle.udf_redo.specs.declared.side.SideState.TheVariants.{Empty, Closed, Open}
use Rattle.udf_redo.specs.declared.stop.RedoStop.{RedoStop}
use Rattle.udf_redo.specs.Log.{state_of}
use Rattle.udf_redo.specs.Settled.{settled, IsOpenLog, CanGoOn, IsElsewhere}
use Rattle.udf_redo.proofs.States.{settled_other}
use Rattle.udf_top.specs.Repairing.{replaying, target, target_by}
use Rattle.udf_top.specs.Headline.{IsSafe, IsUnmended}
use Rattle.udf_top.specs.Steps.{IsSettling, IsMending}
use Rattle.udf_top.proofs.Settling.{replaying_as, replaying_free, replaying_open, open_answered, settled_free, replays_log}

-- a run can go on exactly where the side file asks for a replay of some blocks, or of none
module _ (image side : List ℕ) where
  can_by : (state : Result SideState RedoStop) (k : ℕ) → state_of side ≡ state → replaying (image, side) ≡ Ok k → CanGoOn (image, side)
  can_by (Ok Empty) k state e = inl (inl state)
  can_by (Ok Closed) k state e = inl (inr state)
  can_by (Ok (Open head)) k state e = inr (open_answered image side head state k (sym (replaying_open image side head state) ∙ e))
  can_by (Err why) k state e = absurd (let no : Err why ≡ Ok k = sym (replaying_as image side (Err why) state) ∙ e in cc)

  pub can_go : (k : ℕ) → replaying (image, side) ≡ Ok k → CanGoOn (image, side)
  can_go k e = can_by (state_of side) k refl e

  pub goes : CanGoOn (image, side) → (k : ℕ) × (replaying (image, side) ≡ Ok k)
  goes (inl free) = (0, replaying_free image side free)
  goes (inr log) = replays_log image side log

  pub cannot : (why : RedoStop) → replaying (image, side) ≡ Err why → CanGoOn (image, side) → ⊥
  cannot why e can = let g = goes can in absurd (let no : Ok g.0 ≡ Err why = sym g.1 ∙ e in cc)

  pub not_open : (why : RedoStop) → replaying (image, side) ≡ Err why → IsOpenLog side image → ⊥
  not_open why e log = cannot why e (inr log)

  -- the image is what the files stand for, unless an open log of it lies beside it
  pub gate_of : CanGoOn (image, side) → IsOpenLog side image ⊎ (image ≡ settled (image, side))
  gate_of (inl free) = inr (sym (settled_free image side free))
  gate_of (inr log) = inl log

  pub gate_here : IsOpenLog side image ⊎ (image ≡ settled (image, side))
  gate_here = by_answer (replaying (image, side)) refl where
    by_answer : (answer : Result ℕ RedoStop) → replaying (image, side) ≡ answer → IsOpenLog side image ⊎ (image ≡ settled (image, side))
    by_answer (Ok k) e = gate_of (can_go k e)
    by_answer (Err why) e = inr (sym (settled_other image side (not_open why e)))

  module _ (given : Option ℕ) where
    pub target_goes : CanGoOn (image, side) → target given (image, side) ≡ mend_as given (settled (image, side))
    unfolding target
    target_goes can = ap (λ (r : Result ℕ RedoStop). target_by given r image (settled (image, side))) (goes can).1

-- the start of a run is safe
pub safe_self : (given : Option ℕ) (start : Pair) → IsSafe given start start
safe_self given start = record {
  same_target = refl;
  gate = ⊎_elim (λ log. inl log) (λ same. inr (inl same)) (gate_here start.0 start.1);
  same_length = refl;
  same_elsewhere = λ i log plan. refl;
  same_seal = λ log. inl refl;
}

module _ (given : Option ℕ) (start pair : Pair) (can : CanGoOn start) where
  pub safe_settling : IsSettling start pair → IsSafe given start pair
  safe_settling is = record {
    same_target = target_goes pair.0 pair.1 given is.goes_on ∙ ap (mend_as given) is.stands_for ∙ sym (target_goes start.0 start.1 given can);
    gate = ⊎_elim (λ log. inl log) (λ same. inr (inl (same ∙ is.stands_for))) (gate_of pair.0 pair.1 is.goes_on);
    same_length = is.same_length;
    same_elsewhere = λ i log plan. is.same_elsewhere i log;
    same_seal = λ log. inl is.same_seal;
  }

-- the mended image, where a size is given or found
pub sized_mend : (given : Option ℕ) (size : ℕ) (image : List ℕ) → size_of given image ≡ Some size → mend_as given image ≡ mend size image
sized_mend given size image sized = ap (λ (found : Option ℕ). mend_by found image) sized

module _ (given : Option ℕ) (size : ℕ) (start : Pair) (sized : size_of given (settled start) ≡ Some size) (pair : Pair) (can : CanGoOn start) where
  -- `middle` is the pair after the replay
  pub safe_mending : (middle : Pair) → is_size size ≡ true → IsBytes (settled start) → middle.0 ≡ settled start → IsSettling start middle → IsMending size (settled start) (mend size (settled start)) pair → IsSafe given start pair
  safe_mending middle known bytes same before is =
      let j = settled start in
      let wanted : target given start ≡ mend size j = target_goes start.0 start.1 given can ∙ sized_mend given size j sized in record {
        same_target = target_goes pair.0 pair.1 given is.goes_on
            ∙ ⊎_elim (λ as_is. ap (mend_as given) as_is ∙ sized_mend given size j sized)
            (λ done. ap (mend_as given) done ∙ sized_mend given size (mend size j) (size_stays size j known bytes given sized) ∙ twice size j known bytes) is.stands_for
            ∙ sym wanted;
        gate = ⊎_elim (λ log. inl log)
            (λ here. inr (⊎_elim (λ as_is. inl (here ∙ as_is)) (λ done. inr (here ∙ done ∙ sym wanted)) is.stands_for))
            (gate_of pair.0 pair.1 is.goes_on);
        same_length = is.same_length ∙ ap length (sym same) ∙ before.same_length;
        same_elsewhere = λ i log plan.
            is.same_elsewhere i (subst (λ (v : List ℕ). IsElsewhere size (plan_of size j v) i) wanted (subst (λ (found : Option ℕ). IsUnmended found given start i) sized plan))
            ∙ ap (λ (v : List ℕ). get_or v i 0) (sym same) ∙ before.same_elsewhere i log;
        same_seal = λ log. inr is.same_seal;
      }

-- nothing was written
module _ (old new : Held) (rests : IsSynced old) (same : new ≡ old) where
  pub safe_rest : (given : Option ℕ) → LeavesOnly old new (IsSafe given (pair_of old))
  safe_rest given =
      leaves_same old new (IsSafe given (pair_of old)) same
      (λ pair now. subst (λ (p : Pair). IsSafe given (pair_of old) p) (sym (rests pair now)) (safe_self given (pair_of old)))

  pub stands_rest : LeavesOnly old new (λ pair. settled pair ≡ settled (pair_of old))
  stands_rest =
      leaves_same old new (λ pair. settled pair ≡ settled (pair_of old)) same
      (λ pair now. ap settled (rests pair now))

-- What is known after a replay, or an attempt at one.
pub record HasBegun (given : Option ℕ) (old middle : Held) : Type 0 where
  pub safe : LeavesOnly old middle (IsSafe given (pair_of old))
  pub stands : LeavesOnly old middle (λ pair. settled pair ≡ settled (pair_of old))
  pub still : (IsOpenLog (bytes_of Side old) (bytes_of Image old) → ⊥) → middle ≡ old

pub unbegun : (given : Option ℕ) (old middle : Held) → IsSynced old → middle ≡ old → HasBegun given old middle
unbegun given old middle rests same = record {
  safe = safe_rest old middle rests same given;
  stands = stands_rest old middle rests same;
  still = λ none. same;
}

pub begun : (given : Option ℕ) (old middle : Held) → IsSynced old → (CanGoOn (pair_of old) → LeavesOnly old middle (IsSettling (pair_of old)))
    → ((IsOpenLog (bytes_of Side old) (bytes_of Image old) → ⊥) → middle ≡ old) → HasBegun given old middle
begun given old middle rests moments still = by_answer (replaying (pair_of old)) refl where
  by_answer : (answer : Result ℕ RedoStop) → replaying (pair_of old) ≡ answer → HasBegun given old middle
  by_answer (Ok k) e =
      let can = can_go (bytes_of Image old) (bytes_of Side old) k e in record {
        safe = leaves_weaker old middle (IsSettling (pair_of old)) (IsSafe given (pair_of old)) (λ pair is. safe_settling given (pair_of old) pair can is) (moments can);
        stands = leaves_weaker old middle (IsSettling (pair_of old)) (λ pair. settled pair ≡ settled (pair_of old)) (λ pair is. is.stands_for) (moments can);
        still = still;
      }
  by_answer (Err why) e = unbegun given old middle rests (still (not_open (bytes_of Image old) (bytes_of Side old) why e))
