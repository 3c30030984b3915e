-- What a stop in a call on the log leaves.
use Rattle.std.specs.Prelude.{◌≡◌, ◌≢◌, ◌⊎◌, ◌≤◌, ℕ, List, length}
use Rattle.udf_outside.specs.Stops.{Pair}
use Rattle.udf_redo.specs.Log.{head_in, records_of, sealed_in, gate}
use Rattle.udf_redo.specs.Settled.{settled, applied_to, CanGoOn, SameElsewhere}

-- while the log is written: no gate is open, and the files stand for the image as it is
pub record IsLogging (image : List ℕ) (pair : Pair) : Type 0 where
  pub same_image : pair.0 ≡ image
  pub gate_last : (length pair.1 ≤ 9) ⊎ (gate pair.1 ≢ 0x4F)
  pub goes_on : CanGoOn pair
  pub stands_for : settled pair ≡ image

-- while the gate is opened: the files stand for the image as it is, or with the recorded blocks
pub record IsOpening (side image : List ℕ) (pair : Pair) : Type 0 where
  pub same_image : pair.0 ≡ image
  pub goes_on : CanGoOn pair
  pub stands_for : (settled pair ≡ image) ⊎ (settled pair ≡ applied_to side image)

-- while the recorded blocks are written: the files stand for the image with all of them, and what the log seals stays
pub record IsApplying (side image : List ℕ) (pair : Pair) : Type 0 where
  pub same_length : length pair.0 ≡ length image
  pub same_head : head_in pair.1 ≡ head_in side
  pub same_seal : sealed_in (head_in side) pair.0 ≡ sealed_in (head_in side) image
  pub same_elsewhere : SameElsewhere (head_in side).size (records_of side) image pair.0
  pub goes_on : CanGoOn pair
  pub stands_for : settled pair ≡ applied_to side image

-- while the gate is closed: the files stand for the image as it is
pub record IsClosing (side image : List ℕ) (pair : Pair) : Type 0 where
  pub same_image : pair.0 ≡ image
  pub same_head : head_in pair.1 ≡ head_in side
  pub goes_on : CanGoOn pair
  pub stands_for : settled pair ≡ image
