-- A sink in memory as its callers see it.
use Rattle.std.specs.Prelude.{ℕ, List, [], Contains}
use Rattle.udf_outside.specs.Numbered.{next_number}

-- the bytes that were put, the numbers of the puts that fail, how many puts there were, how many failed, and how many
-- found no memory
pub record Gathered : Type 0 where
  pub bytes : List ℕ
  pub fail : List ℕ
  pub puts : ℕ
  pub faults : ℕ
  pub wants : ℕ

abbrev pub gathers_nothing : List ℕ → Gathered
gathers_nothing fail = record { bytes = []; fail = fail; puts = 0; faults = 0; wants = 0 }

-- the next put is one of those that fail
abbrev pub IsPutToFail : Gathered → Type 0
IsPutToFail sink = Contains sink.fail (next_number sink.puts)
