-- What the code reads from words, in the terms of the definitions.
use Rattle.std.specs.Prelude.{◌≡◌, ℕ, Option, Some, None, List, Result, Ok, Err}
use Rattle.clap.specs.Words.{Row, rows_of, found_of}
use Rattle.clap.specs.declared.parser.matches.ArgMatches.{ArgMatches}
use Rattle.udf_words.specs.declared.cause.Cause.{Cause}
use Rattle.udf_words.specs.declared.cause.WordsStop.{WordsStop}
use Rattle.udf_words.specs.declared.cause.WordsStop.TheVariants.{Usage, Memory}
use Rattle.udf_words.specs.declared.command.Work.{Work}
use Rattle.udf_words.specs.declared.command.Work.TheVariants as work
use Rattle.udf_words.specs.declared.command.Command.{Command}
use Rattle.udf_words.specs.Words as words
use Rattle.udf_words.specs.Words.{default_side}

abbrev pub side_seen : Work → List ℕ → Option (List ℕ)
side_seen work.Check medium = None
side_seen (work.Repair None) medium = Some (default_side medium)
side_seen (work.Repair (Some side)) medium = Some side.now

abbrev pub command_seen : Command → words.Command
command_seen command = record { size = command.size; medium = command.medium.now; side = side_seen command.work command.medium.now }

abbrev pub rows_seen : ArgMatches → List Row
rows_seen matches = rows_of (found_of matches)

-- the answer is the expected one
abbrev pub Reads : {S T : Type 0} → (T → S) → Result S Cause → Result T Cause → Type 0
Reads seen expected (Ok value) = expected ≡ Ok (seen value)
Reads seen expected (Err cause) = expected ≡ Err cause

-- the answer is the expected one, or memory was wanting
abbrev pub ReadsOrStops : {S T : Type 0} → (T → S) → Result S Cause → Result T WordsStop → Type 0
ReadsOrStops seen expected (Ok value) = expected ≡ Ok (seen value)
ReadsOrStops seen expected (Err (Usage cause)) = expected ≡ Err cause
ReadsOrStops seen expected (Err Memory) = Unit {0}
