use Rattle.std.proofs.Common.{IsTrue}
use Rattle.udf_outside.proofs.Runs.{leaves_start, leaves_then}
use Rattle.udf_outside.proofs.laws.run_law.Goals as goal

pub returns : goal.returns
returns c = record {
  same = λ held test each. leaves_start held (λ pair. IsTrue (test pair)) each;
  then = λ start middle end test first second. leaves_then start middle end (λ pair. IsTrue (test pair)) first second;
}
