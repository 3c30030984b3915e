-- Why a call on the log ends without its answer.
use Rattle.std.specs.Prelude.{◌≡◌, ◌⊎◌, ℕ, ◌≤◌, Result, Ok, Err, IsErrOf, IfErr}
use Rattle.udf_outside.specs.Causes.{Rose}
use Rattle.udf_redo.specs.declared.stop.RedoStop.{RedoStop}
use Rattle.udf_redo.specs.declared.stop.RedoStop.TheVariants.{NotALog, BadLog, WrongImage, Fault, Memory}

-- the count of faults never falls, and a fault that is told raised it
pub record HasFault {T : Type 0} (before now : ℕ) (result : Result T RedoStop) : Type 0 where
  pub later : before ≤ now
  pub fault : IsErrOf result Fault → Rose before now

-- this answer, unless a fault or want of memory came
abbrev pub Answers : {T : Type 0} → Result T RedoStop → Result T RedoStop → Type 0
Answers expected (Ok answer) = expected ≡ Ok answer
Answers expected (Err NotALog) = expected ≡ Err NotALog
Answers expected (Err BadLog) = expected ≡ Err BadLog
Answers expected (Err (WrongImage clash)) = expected ≡ Err (WrongImage clash)
Answers expected (Err Fault) = Unit {0}
Answers expected (Err Memory) = Unit {0}

abbrev pub OnlyFaults : {T : Type 0} → Result T RedoStop → Type 0
OnlyFaults result = IfErr result (λ stop. stop ≡ Fault)

abbrev pub OnlyFaultsOrMemory : {T : Type 0} → Result T RedoStop → Type 0
OnlyFaultsOrMemory result = IfErr result (λ stop. (stop ≡ Fault) ⊎ (stop ≡ Memory))

abbrev pub IsReplayStop : RedoStop → Type 0
IsReplayStop NotALog = ⊥
IsReplayStop BadLog = ⊥
IsReplayStop (WrongImage clash) = Unit {0}
IsReplayStop Fault = Unit {0}
IsReplayStop Memory = Unit {0}
