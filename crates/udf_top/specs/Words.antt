-- Repairs, as the words of a command line ask for them.
use Rattle.std.specs.Prelude.{ℕ, Bool, false, Option, Some, None, if◌then◌else◌, List, is_none, Result, Ok, Err}
use Rattle.std.specs.Str.{bytes_eq}
use Rattle.udf_words.specs.declared.cause.Cause.{Cause}
use Rattle.udf_words.specs.Words.{Command, command_in}

-- A repair: the block size where it is given, the medium, and a side file that is another file.
pub record Repair : Type 0 where
  pub size : Option ℕ
  pub medium : List ℕ
  pub side : List ℕ

abbrev pub beside : Option (List ℕ) → Option ℕ → List ℕ → Option Repair
beside None size medium = None
beside (Some side) size medium =
    if bytes_eq side medium then None else Some (record { size = size; medium = medium; side = side })

abbrev pub repair_by : Result Command Cause → Option Repair
repair_by (Err cause) = None
repair_by (Ok command) = beside command.side command.size command.medium

-- the repair that words ask for, if they do and its names are two
unfoldable pub repair_in : List (List ℕ) → Option Repair
repair_in words = repair_by (command_in words)

-- the words ask for a check
abbrev pub checks : Result Command Cause → Bool
checks (Err cause) = false
checks (Ok command) = is_none command.side

-- the words ask for a repair whose side file has the name of the medium
abbrev pub names_one_by : Option (List ℕ) → List ℕ → Bool
names_one_by None medium = false
names_one_by (Some side) medium = bytes_eq side medium

abbrev pub names_one_file : Result Command Cause → Bool
names_one_file (Err cause) = false
names_one_file (Ok command) = names_one_by command.side command.medium
