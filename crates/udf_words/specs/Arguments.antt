-- The command of a tool as `clap` reads it, and what `clap` makes of words.
use Rattle.std.specs.Prelude.{ℕ, Bool, true, false, Option, Some, List, [], codes, if◌then◌else◌, Result, Ok, Err}
use Rattle.std.specs.Option.{option_map_or}
use Rattle.std.specs.Str.{bytes_eq}
use Rattle.clap.specs.Words.{App, Row, Rule, first_of, matches_of, new_rule, fault_of}
use Rattle.clap.specs.Simple.{new_shape}
use Rattle.clap.specs.Walk.{is_empty}
use Rattle.clap.specs.declared.builder.action.ArgAction.TheVariants.{Set, SetTrue}
use Rattle.udf_words.specs.declared.cause.Cause.{Cause}
use Rattle.udf_words.specs.declared.cause.Cause.TheVariants.{Words}

-- an argument that takes no value, with a short name
abbrev pub flag_rule : List ℕ → ℕ → Rule
flag_rule id short = record (new_rule id) { short = Some short; action = Some SetTrue }

-- an argument that takes one value, named by its long name, with a short name or none
abbrev pub option_rule : List ℕ → Option ℕ → Rule
option_rule id short = record (new_rule id) { long = Some id; short = short; action = Some Set }

-- an argument by its place
abbrev pub place_rule : List ℕ → Bool → Rule
place_rule id required = record (new_rule id) { required = required; action = Some Set }

-- a command with these arguments and without help and version options, of words that the name of the program is not among
unfoldable pub tool_app : List ℕ → List Rule → App
tool_app name rules = record {
  top = record (new_shape name) { rules = rules; no_binary_name = true; disable_help_flag = true };
  subs = [];
}

-- what `clap` finds in the words, where it does not refuse them for another cause than memory
unfoldable pub found_in : App → List (List ℕ) → Result (List Row) Cause
found_in app words = if is_empty (fault_of app words) then Ok (matches_of app words) else Err Words

-- the first value of an argument
abbrev pub value_in : List ℕ → List Row → Option (List ℕ)
value_in id rows = first_of id rows

-- the flag is given
abbrev pub is_given : List ℕ → List Row → Bool
is_given id rows = option_map_or (λ text. bytes_eq text (codes "true")) (first_of id rows) false
