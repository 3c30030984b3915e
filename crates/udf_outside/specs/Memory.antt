-- A bench in memory: what was asked of its files, what they hold and held, and its script.
use Rattle.std.specs.Prelude.{◌≡◌, ◌⊎◌, ℕ, min, false, List, [], length, take, Option, Some, None, option_map, string_bytes}
use Rattle.udf_outside.specs.declared.bench.Role.{Role}
use Rattle.udf_outside.specs.declared.memory.script.Turn.{Turn}
use Rattle.udf_outside.specs.declared.memory.script.Turn.TheVariants.{Works, Fails, Stops, Over}
use Rattle.udf_outside.specs.declared.memory.script.Spared.{Spared}
use Rattle.udf_outside.specs.declared.memory.MemSlot.{MemSlot}
use Rattle.udf_outside.specs.declared.memory.MemBench.{MemBench}
use Rattle.udf_outside.specs.Files.{File, Files}
use Rattle.udf_outside.specs.Stops.{Content, Held, bytes_of, put, after_write}
use Rattle.udf_outside.specs.Tracked.{Tracked}
use Rattle.udf_outside.specs.Undo.{one_of, held_of}
use Rattle.udf_outside.specs.Numbered.{next_number}
use Rattle.udf_outside.specs.Script.{Scripted, done_of}

abbrev pub file_in : MemSlot → File
file_in slot = record {
  asked = slot.asked;
  name = option_map string_bytes slot.name;
  attached = slot.attached;
  size = length slot.file.bytes;
}

unfoldable pub files_in : MemBench → Files
files_in bench = record { image = file_in bench.image; side = file_in bench.side }

unfoldable pub held_in : MemBench → Held
held_in bench = held_of bench.changes.items bench.image.file bench.side.file

unfoldable pub script_in : MemBench → Scripted
script_in bench = bench.script

abbrev pub tracked_of : Role → MemBench → Tracked
tracked_of role bench = one_of role bench.image.file bench.side.file

-- a file of so many bytes of which nothing was asked
abbrev pub unasked_file : ℕ → File
unasked_file size = record { asked = None; name = None; attached = false; size = size }

abbrev pub unasked : ℕ → ℕ → Files
unasked image side = record { image = unasked_file image; side = unasked_file side }

abbrev pub synced_content : List ℕ → Content
synced_content bytes = record { bytes = bytes; base = length bytes; pending = λ i. false }

-- these contents of image and side file, at their first moment, with nothing pending
abbrev pub synced_at : List ℕ → List ℕ → Held
synced_at image side = record { now = record { image = synced_content image; side = synced_content side }; past = [] }

-- what the stop spares of a write
abbrev pub spared_by : Turn → Role → ℕ → ℕ → Option Spared → Option Spared
spared_by Works role at n spared = spared
spared_by Fails role at n spared = spared
spared_by (Stops bytes) role at n spared = Some (record { role = role; range = record { at = at; len = min n bytes } })
spared_by Over role at n spared = spared

-- what a write leaves where it found memory: its whole range is pending, but after the stop
abbrev pub left_by : Turn → Role → ℕ → List ℕ → Held → Held
left_by Over role at bytes held = held
left_by turn role at bytes held = after_write role at (length bytes) (put (bytes_of role held) at (take (done_of turn (length bytes)) bytes)) held

-- A write in memory is carried out as far as its turn goes, or found no memory and left all as it was.
abbrev pub CarriesOut : Turn → Role → ℕ → List ℕ → MemBench → MemBench → Type 0
CarriesOut turn role at bytes old new =
    ((held_in new ≡ left_by turn role at bytes (held_in old)) × ((script_in new).spared ≡ spared_by turn role at (length bytes) (script_in old).spared)
    × ((script_in new).wants ≡ (script_in old).wants))
    ⊎ ((held_in new ≡ held_in old) × ((script_in new).spared ≡ (script_in old).spared) × ((script_in new).wants ≡ next_number (script_in old).wants))

-- only what the two files hold may differ
pub record SameButFiles (old new : MemBench) : Type 0 where
  pub image : new.image ≡ record old.image { file = new.image.file }
  pub side : new.side ≡ record old.side { file = new.side.file }
  pub changes : new.changes ≡ old.changes
  pub script : new.script ≡ old.script

-- a bench with these contents, attached to nothing, at its first moment, with nothing pending
pub record BeginsWith (image side : List ℕ) (bench : MemBench) : Type 0 where
  pub files : files_in bench ≡ unasked (length image) (length side)
  pub held : held_in bench ≡ synced_at image side
