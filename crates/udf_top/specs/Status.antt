-- The status of each outcome, after fsck(8); 64 is the project's own.
use Rattle.std.specs.Prelude.{ℕ}
use Rattle.udf_top.specs.declared.outcome.Outcome.{Outcome}
use Rattle.udf_top.specs.declared.outcome.Outcome.TheVariants as outcome

abbrev pub status_of : Outcome → ℕ
status_of outcome.Clean = 0
status_of (outcome.Repaired replayed written) = 1
status_of (outcome.Broken findings) = 4
status_of (outcome.Refused missing) = 4
status_of (outcome.Usage cause) = 16
status_of outcome.SameFile = 16
status_of outcome.NotALog = 12
status_of outcome.BadLog = 12
status_of (outcome.WrongImage clash) = 12
status_of outcome.DeviceFault = 8
status_of outcome.OutFault = 8
status_of outcome.Memory = 64
