-- Calls that read a bench and change nothing there.
use Rattle.std.specs.Prelude.{◌≡◌, ℕ, ◌≤◌, Result, OnOk, IsErrOf}
use Rattle.udf_outside.specs.Causes.{Rose}
use Rattle.udf_outside.specs.Files.{Files}
use Rattle.udf_outside.specs.Stops.{Held}
use Rattle.udf_outside.specs.declared.bench.Failed.{Failed}

-- What was asked of the files and what they hold stays. The count of faults stays where the call succeeds and never falls, and
-- the answer that tells a fault has a cause.
pub record OnlyReads {B T E : Type 0} (files_of : B → Files) (held_of : B → Held) (faults_of : B → ℕ) (old new : B) (fault : E) (result : Result T E) : Type 0 where
  pub files : files_of new ≡ files_of old
  pub held : held_of new ≡ held_of old
  pub later : faults_of old ≤ faults_of new
  pub cause : IsErrOf result fault → Rose (faults_of old) (faults_of new)
  pub calm : OnOk result (faults_of new ≡ faults_of old)

-- the one value of `Failed`
abbrev pub failed : Failed
failed = record {}
