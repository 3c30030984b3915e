-- How a process ends, by its words alone: what its files and its output are is known to nobody before.
use Rattle.std.specs.Prelude.{◌≡◌, ℕ, List, Err}
use Rattle.udf_words.specs.declared.cause.Cause.{Cause}
use Rattle.udf_top.specs.declared.outcome.Outcome.{Outcome}
use Rattle.udf_top.specs.declared.outcome.Outcome.TheVariants as outcome
use Rattle.udf_top.specs.Status.{status_of}
use Rattle.udf_top.specs.Endings.{HasEnded}
use Rattle.udf_words.specs.Words.{command_in}

-- The status is that of an outcome, and words that are no command are refused exactly where they are none.
pub record EndsLike (words : List (List ℕ)) (status : ℕ) : Type 0 where
  pub came : Outcome
  pub told : status ≡ status_of came
  pub usage : (cause : Cause) → came ≡ outcome.Usage cause → command_in words ≡ Err cause
  pub wrong : (cause : Cause) → command_in words ≡ Err cause → HasEnded came → came ≡ outcome.Usage cause
