-- The words of `udffsck`.
use Rattle.std.specs.Prelude.{ℕ, Bool, true, false, Option, Some, None, unwrap_or, option_map, if◌then◌else◌, List, [], ◌∷◌, ◌++◌, codes, Result, Ok, Err}
use Rattle.std.specs.Str.{bytes_eq}
use Rattle.clap.specs.Words.{App, Row}
use Rattle.udf_words.specs.Arguments.{flag_rule, option_rule, place_rule, tool_app, found_in, value_in, is_given}
use Rattle.udf_words.specs.declared.cause.Cause.{Cause}
use Rattle.udf_words.specs.declared.cause.Cause.TheVariants.{Value, Mode}

-- What a run is asked to do: the block size where it is given, the medium, and for a repair the side file.
pub record Command : Type 0 where
  pub size : Option ℕ
  pub medium : List ℕ
  pub side : Option (List ℕ)

-- `-c`, `-p`, `-B` or `--blocksize`, `--redo`, MEDIUM
unfoldable pub udffsck_app : App
udffsck_app = tool_app (codes "udffsck") (flag_rule (codes "check") 99
    ∷ flag_rule (codes "repair") 112
    ∷ option_rule (codes "blocksize") (Some 66)
    ∷ option_rule (codes "redo") None
    ∷ place_rule (codes "medium") true ∷ [])

-- one of the four block sizes
unfoldable pub size_in : List ℕ → Option ℕ
size_in word =
    if bytes_eq word (codes "512") then Some 512
    else if bytes_eq word (codes "1024") then Some 1024
    else if bytes_eq word (codes "2048") then Some 2048
    else if bytes_eq word (codes "4096") then Some 4096
    else None

-- the side file of a medium, where none is named
abbrev pub default_side : List ℕ → List ℕ
default_side medium = medium ++ codes ".redo"

-- the size that is given, if any, or that it is none of the four
abbrev pub size_by : Option (Option ℕ) → Result (Option ℕ) Cause
size_by None = Ok None
size_by (Some None) = Err Value
size_by (Some (Some size)) = Ok (Some size)

-- by whether `-c` and `-p` are given
abbrev pub work_by : Bool → Bool → Option ℕ → List ℕ → Option (List ℕ) → Result Command Cause
work_by true false size medium side = Ok (record { size = size; medium = medium; side = None })
work_by false true size medium side = Ok (record { size = size; medium = medium; side = Some (unwrap_or side (default_side medium)) })
work_by true true size medium side = Err Mode
work_by false false size medium side = Err Mode

abbrev pub sized_by : Result (Option ℕ) Cause → List Row → Result Command Cause
sized_by (Err cause) rows = Err cause
sized_by (Ok size) rows = work_by (is_given (codes "check") rows) (is_given (codes "repair") rows) size
    (unwrap_or (value_in (codes "medium") rows) []) (value_in (codes "redo") rows)

-- what is asked for by what `clap` found
unfoldable pub command_by : List Row → Result Command Cause
command_by rows = sized_by (size_by (option_map size_in (value_in (codes "blocksize") rows))) rows

abbrev pub command_from : Result (List Row) Cause → Result Command Cause
command_from (Err cause) = Err cause
command_from (Ok rows) = command_by rows

-- what the words ask for, or why they are no command
unfoldable pub command_in : List (List ℕ) → Result Command Cause
command_in words = command_from (found_in udffsck_app words)
