-- What the steps of a repair leave of its files.
use Rattle.std.specs.Prelude.{◌≡◌, ◌⊎◌, ℕ, true, List, ◌++◌, length, Option, Some}
use Rattle.udf_outside.specs.declared.bench.Role.TheVariants.{Image, Side}
use Rattle.udf_outside.specs.Stops.{Held, Pair, bytes_of, IsSynced, LeavesOnly}
use Rattle.udf_volume_model.specs.Opened.{plan_of}
use Rattle.udf_mended_image.specs.Accepted.{mend, is_unbroken}
use Rattle.udf_redo.specs.Log.{head_in, sealed_in}
use Rattle.udf_redo.specs.Settled.{settled, CanGoOn, IsFree, SameElsewhere}
use Rattle.udf_top.specs.declared.outcome.Outcome.{Outcome}
use Rattle.udf_top.specs.Repairing.{mend_of, logged, log_size}
use Rattle.udf_top.specs.Endings.{HasEnded, HasRepaired, HasOpenedNoGate}
use Rattle.udf_top.specs.Udffsck.{HoldsFront}

-- while an open log is replayed: the files stand for the settled image, and what the log seals stays
pub record IsSettling (start pair : Pair) : Type 0 where
  pub goes_on : CanGoOn pair
  pub stands_for : settled pair ≡ settled start
  pub same_length : length pair.0 ≡ length start.0
  pub same_seal : sealed_in (head_in pair.1) pair.0 ≡ sealed_in (head_in pair.1) start.0
  pub same_elsewhere : SameElsewhere (log_size start) (logged start) start.0 pair.0

-- while the blocks are written in which an image afterwards differs: the files stand for the image as it is, or for the one
-- afterwards, and what the log seals stays
pub record IsMending (size : ℕ) (image after : List ℕ) (pair : Pair) : Type 0 where
  pub goes_on : CanGoOn pair
  pub stands_for : (settled pair ≡ image) ⊎ (settled pair ≡ after)
  pub same_length : length pair.0 ≡ length image
  pub same_seal : sealed_in (head_in pair.1) pair.0 ≡ sealed_in (head_in pair.1) image
  pub same_elsewhere : SameElsewhere size (plan_of size image after) image pair.0

-- the files after they were written
pub record IsMended (after : List ℕ) (end : Held) : Type 0 where
  pub holds : bytes_of Image end ≡ after
  pub side : IsFree (bytes_of Side end)
  pub synced : IsSynced end

-- The second half of a repair, over an image that is settled, after a replay of so many blocks: how it ends, what a stop leaves
-- of it, and when nothing was written.
pub record Mends (size replayed : ℕ) (old new : Held) (result : Outcome) : Type 0 where
  pub outcome : HasEnded result → result ≡ mend_of size replayed (bytes_of Image old)
  pub moments : LeavesOnly old new (IsMending size (bytes_of Image old) (mend size (bytes_of Image old)))
  pub done : HasRepaired result → IsMended (mend size (bytes_of Image old)) new
  pub unopened : HasOpenedNoGate result → new ≡ old
  pub unbroken : is_unbroken size (bytes_of Image old) ≡ true → new ≡ old

-- this text was put, or a front of it after a fault or want of memory
pub record Says (told : Option (List ℕ)) (before text : List ℕ) (result : Outcome) : Type 0 where
  pub whole : HasEnded result → told ≡ Some (before ++ text)
  pub front : HoldsFront told before text
