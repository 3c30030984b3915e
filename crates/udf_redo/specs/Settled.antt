-- What an image and a side file stand for.
use Rattle.std.specs.Prelude.{◌≡◌, ◌⊎◌, ℕ, ◌+◌, ◌*◌, ◌<◌, ◌≤◌, ◌==◌, if◌then◌else◌, true, List, [], ◌∷◌, slice_index, Option, Some, None, Result, Ok, Err}
use Rattle.std.specs.Str.{bytes_eq}
use Rattle.std.specs.List.{All}
use Rattle.udf_model.specs.Image.{blocks_in}
use Rattle.udf_outside.specs.Stops.{Pair, put}
use Rattle.udf_redo.specs.Log.{Edit}
use Rattle.udf_redo.specs.declared.head.LogHead.{LogHead}
use Rattle.udf_redo.specs.declared.side.SideState.{SideState}
use Rattle.udf_redo.specs.declared.side.SideState.TheVariants.{Empty, Closed, Open}
use Rattle.udf_redo.specs.declared.stop.RedoStop.{RedoStop}
use Rattle.udf_redo.specs.declared.stop.RedoStop.TheVariants.{WrongImage}
use Rattle.udf_redo.specs.declared.stop.Clash.{Clash}
use Rattle.udf_redo.specs.declared.stop.Clash.TheVariants.{Blocks, Seal}
use Rattle.udf_redo.specs.Log.{head_in, records_of, state_of, is_log_of, seal_of}

-- the image with each record's bytes at its sector
unfoldable pub applied : ℕ → List Edit → List ℕ → List ℕ
applied size [] image = image
applied size (edit ∷ rest) image = applied size rest (put image (edit.0 * size) edit.1)

abbrev pub applied_to : List ℕ → List ℕ → List ℕ
applied_to side image = applied (head_in side).size (records_of side) image

abbrev pub settled_by : Result SideState RedoStop → List ℕ → List ℕ → List ℕ
settled_by (Ok (Open head)) side image = if is_log_of head image then applied_to side image else image
settled_by (Ok Empty) side image = image
settled_by (Ok Closed) side image = image
settled_by (Err stop) side image = image

-- the image with the records where the side file is an open log of it, else the image
unfoldable pub settled : Pair → List ℕ
settled pair = settled_by (state_of pair.1) pair.1 pair.0

-- an open log of this image
pub record IsOpenLog (side image : List ℕ) : Type 0 where
  pub lawful : state_of side ≡ Ok (Open (head_in side))
  pub same_image : is_log_of (head_in side) image ≡ true

-- a log may be written over this side file
abbrev pub IsFree : List ℕ → Type 0
IsFree side = (state_of side ≡ Ok Empty) ⊎ (state_of side ≡ Ok Closed)

-- a later run can go on from these files: it finds no log, a closed one, or an open log of this image
abbrev pub CanGoOn : Pair → Type 0
CanGoOn pair = IsFree pair.1 ⊎ IsOpenLog pair.1 pair.0

-- a byte of no recorded block
abbrev pub IsElsewhere : ℕ → List Edit → ℕ → Type 0
IsElsewhere size edits i = All (λ edit. (i < edit.0 * size) ⊎ (edit.0 * size + size ≤ i)) edits

-- images that differ at most in these blocks
abbrev pub SameElsewhere : ℕ → List Edit → List ℕ → List ℕ → Type 0
SameElsewhere size edits old new = (i : ℕ) → IsElsewhere size edits i → slice_index new i ≡ slice_index old i

-- in what an image differs from the one that a log was made of
unfoldable pub clash_in : LogHead → List ℕ → Option Clash
clash_in head image =
    if blocks_in head.size image == head.blocks then
    (if bytes_eq (seal_of head image) head.seal then None else Some (Seal head.seal (seal_of head image)))
    else Some (Blocks head.blocks (blocks_in head.size image))

abbrev pub answer_by : LogHead → Option Clash → Result ℕ RedoStop
answer_by head None = Ok head.records
answer_by head (Some clash) = Err (WrongImage clash)

-- what a replay of the log with this head answers over an image
abbrev pub replay_answer : LogHead → List ℕ → Result ℕ RedoStop
replay_answer head image = answer_by head (clash_in head image)
