-- What is answered of a side file, also over a bench that tells nothing.
use Rattle.std.specs.Prelude.{◌≡◌, ℕ, ◌≤◌, true}
use Rattle.udf_redo.specs.declared.side.SideState.{SideState}
use Rattle.udf_redo.specs.declared.side.SideState.TheVariants.{Empty, Closed, Open}
use Rattle.udf_redo.specs.declared.stop.RedoStop.{RedoStop}
use Rattle.udf_redo.specs.declared.stop.RedoStop.TheVariants.{NotALog, BadLog, WrongImage, Fault, Memory}
use Rattle.udf_redo.specs.Log.{is_head, log_length}

-- the head of an open log is lawful, and the file of so many bytes holds its records
abbrev pub OpensWithin : ℕ → SideState → Type 0
OpensWithin bytes Empty = Unit {0}
OpensWithin bytes Closed = Unit {0}
OpensWithin bytes (Open head) = (is_head head ≡ true) × (log_length head ≤ bytes)

abbrev pub IsRefusal : RedoStop → Type 0
IsRefusal NotALog = Unit {0}
IsRefusal BadLog = Unit {0}
IsRefusal (WrongImage clash) = ⊥
IsRefusal Fault = Unit {0}
IsRefusal Memory = ⊥
