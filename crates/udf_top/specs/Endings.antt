-- How runs end: each outcome has one ending, and what a run promises goes by it.
use Rattle.std.specs.Prelude.{◌≡◌, ℕ}
use Rattle.udf_top.specs.declared.outcome.Outcome.{Outcome}
use Rattle.udf_top.specs.declared.outcome.Outcome.TheVariants as outcome

pub data Ending : Type 0 where
  -- the image is what a repair makes of it, and so many of its blocks were written to make it so
  Mended : ℕ → Ending
  -- the run came to its end, and told why it mends nothing
  Told : Ending
  -- a call on the files failed
  DeviceFailed : Ending
  -- a line could not be put, or memory was wanting
  Failed : Ending

abbrev pub ending_of : Outcome → Ending
ending_of outcome.Clean = Mended 0
ending_of (outcome.Repaired replayed written) = Mended written
ending_of (outcome.Broken findings) = Told
ending_of (outcome.Refused missing) = Told
ending_of (outcome.Usage cause) = Told
ending_of outcome.SameFile = Told
ending_of outcome.NotALog = Told
ending_of outcome.BadLog = Told
ending_of (outcome.WrongImage clash) = Told
ending_of outcome.DeviceFault = DeviceFailed
ending_of outcome.OutFault = Failed
ending_of outcome.Memory = Failed

abbrev pub IsEnd : Ending → Type 0
IsEnd (Mended written) = Unit {0}
IsEnd Told = Unit {0}
IsEnd DeviceFailed = ⊥
IsEnd Failed = ⊥

-- the run came to its end: no fault and no want of memory
abbrev pub HasEnded : Outcome → Type 0
HasEnded result = IsEnd (ending_of result)

abbrev pub IsMendedEnd : Ending → Type 0
IsMendedEnd (Mended written) = Unit {0}
IsMendedEnd Told = ⊥
IsMendedEnd DeviceFailed = ⊥
IsMendedEnd Failed = ⊥

-- the repair ended
abbrev pub HasRepaired : Outcome → Type 0
HasRepaired result = IsMendedEnd (ending_of result)

abbrev pub IsMendedOrFailed : Ending → Type 0
IsMendedOrFailed (Mended written) = Unit {0}
IsMendedOrFailed Told = ⊥
IsMendedOrFailed DeviceFailed = Unit {0}
IsMendedOrFailed Failed = Unit {0}

-- it ended, or failed for a fault or want of memory
abbrev pub HasRepairedOrFailed : Outcome → Type 0
HasRepairedOrFailed result = IsMendedOrFailed (ending_of result)

abbrev pub IsUnopened : Ending → Type 0
IsUnopened (Mended written) = written ≡ 0
IsUnopened Told = Unit {0}
IsUnopened DeviceFailed = ⊥
IsUnopened Failed = Unit {0}

-- it repaired no block, and no call on the files failed: no gate of the run's own was opened
abbrev pub HasOpenedNoGate : Outcome → Type 0
HasOpenedNoGate result = IsUnopened (ending_of result)
