-- Which calls of a bench in memory fail and where it stops, and what it counts.
use Rattle.std.specs.Prelude.{◌≡◌, ◌≢◌, ◌⊎◌, ℕ, Bool, true, false, ◌||◌, ◌==◌, min, Option, Some, None, List, Contains, IsTrue, Result, OnOk, OnErr}
use Rattle.udf_outside.specs.declared.bench.Role.{Role}
use Rattle.udf_outside.specs.declared.bench.Role.TheVariants.{Image, Side}
use Rattle.udf_outside.specs.declared.memory.script.Stop.{Stop}
use Rattle.udf_outside.specs.declared.memory.script.Turn.{Turn}
use Rattle.udf_outside.specs.declared.memory.script.Turn.TheVariants.{Works, Fails, Stops, Over}
use Rattle.udf_outside.specs.declared.memory.script.Spared.{Spared}
use Rattle.udf_outside.specs.Numbered.{next_number}

-- the number of calls so far, those that are to fail, the stop, whether it came, how many calls failed, how many found no
-- memory, how many writes of each role there were, and what the stopped call wrote
pub record Scripted : Type 0 where
  pub calls : ℕ
  pub fail : List ℕ
  pub stop : Option Stop
  pub is_over : Bool
  pub faults : ℕ
  pub wants : ℕ
  pub image_writes : ℕ
  pub side_writes : ℕ
  pub spared : Option Spared

-- no call was made yet
abbrev pub not_begun : List ℕ → Option Stop → Scripted
not_begun fail stop = record {
  calls = 0;
  fail = fail;
  stop = stop;
  is_over = false;
  faults = 0;
  wants = 0;
  image_writes = 0;
  side_writes = 0;
  spared = None;
}

abbrev pub is_at : Option Stop → ℕ → Bool
is_at None number = false
is_at (Some stop) number = stop.call == number

-- the next call is the stopped one
abbrev pub is_stop_next : Scripted → Bool
is_stop_next script = is_at script.stop (next_number script.calls)

-- the next call is one that fails by its number, the stopped one, or one after that
abbrev pub IsDue : Scripted → Type 0
IsDue script = IsTrue script.is_over ⊎ IsTrue (is_stop_next script) ⊎ Contains script.fail (next_number script.calls)

-- what the next call does
abbrev pub Takes : Scripted → Turn → Type 0
Takes script Over = IsTrue script.is_over
Takes script (Stops bytes) = (script.is_over ≡ false) × (script.stop ≡ Some (record { call = next_number script.calls; bytes = bytes }))
Takes script Fails = (script.is_over ≡ false) × (is_stop_next script ≡ false) × Contains script.fail (next_number script.calls)
Takes script Works = (script.is_over ≡ false) × (is_stop_next script ≡ false) × ¬ Contains script.fail (next_number script.calls)

-- how many of n bytes of a write are written
abbrev pub done_of : Turn → ℕ → ℕ
done_of Works n = n
done_of Fails n = 0
done_of (Stops bytes) n = min n bytes
done_of Over n = 0

-- one more call
abbrev pub after_call : Scripted → Scripted
after_call script = record script {
  calls = next_number script.calls;
  is_over = script.is_over || is_stop_next script;
}

abbrev pub after_fault : Scripted → Scripted
after_fault script = record script { faults = next_number script.faults }

abbrev pub after_want : Scripted → Scripted
after_want script = record script { faults = next_number script.faults; wants = next_number script.wants }

abbrev pub writes_of : Role → Scripted → ℕ
writes_of Image script = script.image_writes
writes_of Side script = script.side_writes

abbrev pub with_write : Role → Scripted → Scripted
with_write Image script = record script { image_writes = next_number script.image_writes }
with_write Side script = record script { side_writes = next_number script.side_writes }

-- What the end of a call leaves of the script: of its turn, and of whether it found memory.
pub record Ends {T E : Type 0} (turn : Turn) (found : Bool) (old new : Scripted) (result : Result T E) : Type 0 where
  pub works : OnOk result ((turn ≡ Works) × (found ≡ true) × (new ≡ old))
  pub fails : OnErr result (((turn ≢ Works) × (found ≡ true) × (new ≡ after_fault old)) ⊎ ((found ≡ false) × (new ≡ after_want old)))

-- What a call leaves of the script, of which `counted` is what the count of the call makes: it succeeds only where it is
-- not due to fail, and fails only where it is or found no memory.
pub record Follows {T E : Type 0} (old counted new : Scripted) (result : Result T E) : Type 0 where
  pub works : OnOk result ((new ≡ counted) × ¬ IsDue old)
  pub fails : OnErr result (((new ≡ after_fault counted) × IsDue old) ⊎ (new ≡ after_want counted))
