-- Runs that cannot begin.
use Rattle.std.specs.Prelude.{◌≡◌, ℕ, List}
use Rattle.udf_top.specs.declared.outcome.Outcome.TheVariants as outcome
use Rattle.udf_top.specs.Status.{status_of}
use Rattle.udf_process.specs.Ends.{EndsLike}

pub not_begun : (words : List (List ℕ)) (status : ℕ) → status ≡ status_of outcome.DeviceFault → EndsLike words status
not_begun words status told = record {
  came = outcome.DeviceFault;
  told = told;
  usage = λ cause h. absurd (cc);
  wrong = λ cause h ended. absurd ended;
}
