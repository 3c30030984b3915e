-- What a repair promises of its files, from the start of the run to its end.
use Rattle.std.specs.Prelude.{◌≡◌, ◌⊎◌, ℕ, true, List, Option, Some, None, length, slice_index}
use Rattle.udf_outside.specs.declared.bench.Role.TheVariants.{Image, Side}
use Rattle.udf_outside.specs.Stops.{Held, Pair, bytes_of, pair_of, IsSynced, LeavesOnly}
use Rattle.udf_volume_model.specs.Opened.{plan_of}
use Rattle.udf_volume_model.specs.Size.{size_of}
use Rattle.udf_mended_image.specs.Sized.{is_accepted_as, is_unbroken_as}
use Rattle.udf_intact.specs.Images.{IsIntactAs, KeepsPathAs}
use Rattle.udf_intact.specs.Steps.{Step}
use Rattle.udf_layer.specs.declared.missing.Missing.{Missing}
use Rattle.udf_redo.specs.Log.{head_in, sealed_in}
use Rattle.udf_redo.specs.Settled.{settled, IsOpenLog, IsFree, CanGoOn, IsElsewhere}
use Rattle.udf_top.specs.declared.outcome.Outcome.{Outcome}
use Rattle.udf_top.specs.declared.outcome.Outcome.TheVariants as outcome
use Rattle.udf_top.specs.Endings.{HasRepaired, HasRepairedOrFailed, HasOpenedNoGate}
use Rattle.udf_top.specs.Repairing.{target, logged, log_size}

-- The byte is in no block of this size in which the target differs from the settled image; without a size they do not differ.
abbrev pub IsUnmended : Option ℕ → Option ℕ → Pair → ℕ → Type 0
IsUnmended None given start i = Unit {0}
IsUnmended (Some size) given start i = IsElsewhere size (plan_of size (settled start) (target given start)) i

-- What a stop leaves of a repair that began with the pair `start`: a rerun has the same target, the image is the settled or the
-- target one unless an open log of it lies beside it, it has its length and differs only in blocks of the log that was open at
-- the start or of the difference, and while a log is open, what it seals is as in the image at the start or as settled.
pub record IsSafe (given : Option ℕ) (start pair : Pair) : Type 0 where
  pub same_target : target given pair ≡ target given start
  pub gate : IsOpenLog pair.1 pair.0 ⊎ ((pair.0 ≡ settled start) ⊎ (pair.0 ≡ target given start))
  pub same_length : length pair.0 ≡ length start.0
  pub same_elsewhere : (i : ℕ) → IsElsewhere (log_size start) (logged start) i
      → IsUnmended (size_of given (settled start)) given start i → slice_index pair.0 i ≡ slice_index start.0 i
  pub same_seal : IsOpenLog pair.1 pair.0
      → (sealed_in (head_in pair.1) pair.0 ≡ sealed_in (head_in pair.1) start.0)
      ⊎ (sealed_in (head_in pair.1) pair.0 ≡ sealed_in (head_in pair.1) (settled start))

-- The files after a repair that ended: the image is the target, is accepted, and breaks no rule; each path that no damage touches in
-- the settled image leads to the file to which it led, with the same bytes; no log is open; and nothing is pending.
pub record IsDone (given : Option ℕ) (start : Pair) (end : Held) : Type 0 where
  pub holds : bytes_of Image end ≡ target given start
  pub accepted : is_accepted_as given (bytes_of Image end) ≡ true
  pub unbroken : is_unbroken_as given (bytes_of Image end) ≡ true
  pub paths : (steps : List Step) → IsIntactAs given (settled start) steps → KeepsPathAs given (settled start) (bytes_of Image end) steps
  pub side : IsFree (bytes_of Side end)
  pub synced : IsSynced end

-- The files after a run that at most replayed a log: the image is the settled one, no log is open, and nothing is pending.
pub record IsReplayed (start : Pair) (end : Held) : Type 0 where
  pub holds : bytes_of Image end ≡ settled start
  pub side : IsFree (bytes_of Side end)
  pub synced : IsSynced end

-- From the start `old` to the end `new`, over files that are told, at the block size that is given, or else the one found in
-- the settled image:
pub record Repairs (given : Option ℕ) (old new : Held) (result : Outcome) : Type 0 where
  -- what a stop leaves at any moment of the run, for every outcome
  pub moments : LeavesOnly old new (IsSafe given (pair_of old))
  -- an image that is accepted as settled, beside a side file that a run can go on from, is repaired, or a fault or want of
  -- memory comes
  pub complete : CanGoOn (pair_of old) → is_accepted_as given (settled (pair_of old)) ≡ true → HasRepairedOrFailed result
  pub done : HasRepaired result → IsDone given (pair_of old) new
  -- where no log of the image is open and no rule is broken, or the image is refused, nothing is written, and no stop leaves
  -- anything else
  pub still : (IsOpenLog (bytes_of Side old) (bytes_of Image old) → ⊥) → is_unbroken_as given (bytes_of Image old) ≡ true → new ≡ old
  pub refused : (IsOpenLog (bytes_of Side old) (bytes_of Image old) → ⊥) → (HasRepairedOrFailed result → ⊥) → new ≡ old
  -- a refused image is the settled one
  pub settled_only : (missing : Missing) → result ≡ outcome.Refused missing → IsReplayed (pair_of old) new
  -- From the opening of its gate on a run ends unless the device fails: in one that ends otherwise, or repairs no block, each
  -- moment stands for the settled image.
  pub unopened : HasOpenedNoGate result → LeavesOnly old new (λ pair. settled pair ≡ settled (pair_of old))
  -- Such a run has written nothing, or no more than an open log of the image, to its end and with nothing pending.
  pub replayed_only : HasOpenedNoGate result → (new ≡ old) ⊎ IsReplayed (pair_of old) new
