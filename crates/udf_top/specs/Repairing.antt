-- What `udffsck -p` answers and prints, and the image that it ends in.
use Rattle.std.specs.Prelude.{ℕ, zero, suc, Option, Some, None, if◌then◌else◌, List, [], ◌∷◌, ◌++◌, length, Result, Ok, Err}
use Rattle.udf_outside.specs.Stops.{Pair}
use Rattle.udf_volume_model.specs.Opened.{difference}
use Rattle.udf_volume_model.specs.Size.{size_of}
use Rattle.udf_mended_image.specs.Accepted.{mend, repairing}
use Rattle.udf_mended_image.specs.Sized.{mend_as}
use Rattle.udf_layer.specs.declared.missing.Missing.{Missing}
use Rattle.udf_layer.specs.declared.missing.Missing.TheVariants.{Anchor}
use Rattle.udf_layer.specs.declared.missing.LayerStop.{LayerStop}
use Rattle.udf_layer.specs.declared.missing.LayerStop.TheVariants as size_stop
use Rattle.udf_volume.specs.declared.volume.Volume.{Volume}
use Rattle.udf_redo.specs.declared.side.SideState.{SideState}
use Rattle.udf_redo.specs.declared.side.SideState.TheVariants.{Empty, Closed, Open}
use Rattle.udf_redo.specs.declared.stop.RedoStop.{RedoStop}
use Rattle.udf_redo.specs.declared.stop.RedoStop.TheVariants as stop
use Rattle.udf_redo.specs.Log.{Edit, head_in, records_of, state_of, is_log_of}
use Rattle.udf_redo.specs.Settled.{settled, replay_answer}
use Rattle.udf_rules.specs.declared.finding.Finding.{Finding}
use Rattle.udf_top.specs.declared.outcome.Outcome.{Outcome}
use Rattle.udf_top.specs.declared.outcome.Outcome.TheVariants as outcome
use Rattle.udf_top.specs.Checking.{found_at}
use Rattle.udf_top.specs.Texts.{text_of, replayed_text, mend_text}

-- how many blocks of an open log of the image are to be replayed, or why the side file is no log of it
abbrev pub replaying_by : Result SideState RedoStop → List ℕ → Result ℕ RedoStop
replaying_by (Ok Empty) image = Ok 0
replaying_by (Ok Closed) image = Ok 0
replaying_by (Ok (Open head)) image = replay_answer head image
replaying_by (Err why) image = Err why

unfoldable pub replaying : Pair → Result ℕ RedoStop
replaying pair = replaying_by (state_of pair.1) pair.0

-- the outcome where the side file is no log of the image
abbrev pub refused_log : RedoStop → Outcome
refused_log stop.NotALog = outcome.NotALog
refused_log stop.BadLog = outcome.BadLog
refused_log (stop.WrongImage clash) = outcome.WrongImage clash
refused_log stop.Fault = outcome.DeviceFault
refused_log stop.Memory = outcome.Memory

-- the outcome where the image has no block size
abbrev pub refused_size : LayerStop → Outcome
refused_size (size_stop.Missing missing) = outcome.Refused missing
refused_size size_stop.Fault = outcome.DeviceFault
refused_size size_stop.Memory = outcome.Memory

-- the number of blocks in which the mended image differs
unfoldable pub written_in : ℕ → List ℕ → ℕ
written_in size image = length (difference size image (mend size image))

-- the outcome of a repair that replayed so many blocks, found these findings, and repairs so many blocks
abbrev pub repaired_as : ℕ → List Finding → ℕ → Outcome
repaired_as zero [] written = outcome.Clean
repaired_as zero (finding ∷ rest) written = outcome.Repaired 0 written
repaired_as (suc k) findings written = outcome.Repaired (suc k) written

abbrev pub mend_by : Result Volume Missing → ℕ → List Finding → ℕ → Outcome
mend_by (Err missing) replayed findings written = outcome.Refused missing
mend_by (Ok volume) replayed findings written = repaired_as replayed findings written

-- the outcome of a repair of an image, after a replay of so many blocks
unfoldable pub mend_of : ℕ → ℕ → List ℕ → Outcome
mend_of size replayed image = mend_by (repairing size image) replayed (found_at size image) (written_in size image)

-- the same at the block size that is given or found; without one the image is refused
abbrev pub mend_sized : Option ℕ → ℕ → List ℕ → Outcome
mend_sized None replayed image = outcome.Refused Anchor
mend_sized (Some size) replayed image = mend_of size replayed image

abbrev pub repair_from : Option ℕ → Result ℕ RedoStop → List ℕ → Outcome
repair_from given (Err why) image = refused_log why
repair_from given (Ok replayed) image = mend_sized (size_of given image) replayed image

-- The outcome of a repair of these files, where nothing fails: why the side file is no log of the image, or else what is said
-- of the image that the files stand for, at the given block size or the one that is found in it.
unfoldable pub repair_of : Option ℕ → Pair → Outcome
repair_of given pair = repair_from given (replaying pair) (settled pair)

abbrev pub text_by_volume : List ℕ → Result Volume Missing → List Finding → ℕ → List ℕ
text_by_volume medium (Err missing) findings written = text_of medium (outcome.Refused missing)
text_by_volume medium (Ok volume) findings written = mend_text medium findings written

-- what is printed of an image that is to be repaired
unfoldable pub mend_said : ℕ → List ℕ → List ℕ → List ℕ
mend_said size medium image = text_by_volume medium (repairing size image) (found_at size image) (written_in size image)

abbrev pub said_sized : Option ℕ → List ℕ → List ℕ → List ℕ
said_sized None medium image = text_of medium (outcome.Refused Anchor)
said_sized (Some size) medium image = mend_said size medium image

abbrev pub said_from : Option ℕ → List ℕ → List ℕ → Result ℕ RedoStop → List ℕ → List ℕ
said_from given medium side (Err why) image = text_of side (refused_log why)
said_from given medium side (Ok replayed) image = replayed_text medium replayed ++ said_sized (size_of given image) medium image

-- what a repair of these files prints, where nothing fails
unfoldable pub repair_said : Option ℕ → List ℕ → List ℕ → Pair → List ℕ
repair_said given medium side pair = said_from given medium side (replaying pair) (settled pair)

-- The image in which each repair of these files ends, and each chain of stops and repairs that ends: the mended one of what
-- they stand for, or the image as it is where the side file is no log of it.
abbrev pub target_by : Option ℕ → Result ℕ RedoStop → List ℕ → List ℕ → List ℕ
target_by given (Ok replayed) image found = mend_as given found
target_by given (Err why) image found = image

unfoldable pub target : Option ℕ → Pair → List ℕ
target given pair = target_by given (replaying pair) pair.0 (settled pair)

-- the records of an open log of the image, and their block size
abbrev pub logged_by : Result SideState RedoStop → Pair → List Edit
logged_by (Ok Empty) pair = []
logged_by (Ok Closed) pair = []
logged_by (Ok (Open head)) pair = if is_log_of head pair.0 then records_of pair.1 else []
logged_by (Err why) pair = []

unfoldable pub logged : Pair → List Edit
logged pair = logged_by (state_of pair.1) pair

abbrev pub log_size : Pair → ℕ
log_size pair = (head_in pair.1).size
