use Rattle.std.proofs.Common.{◌≡◌, ◌∙◌, sym, ap, codes, List, ℕ, map, string_bytes, Some, Ok}
use Rattle.clap.specs.Words.{App, Row, is_simple_and_free}
use Rattle.udf_words.specs.Arguments.{found_in, value_in}
use Rattle.udf_words.specs.Asked.{rows_seen}
use Rattle.udf_words.specs.Words.{udffsck_app}
use Rattle.udf_words.proofs.Founds.{found_is}
use Rattle.udf_words.proofs.Medium.{medium_found}
use Rattle.udf_words.proofs.Taken.{udffsck_simple}
use Rattle.udf_words.proofs.command.command_of.Goals as goal

pub found-requires : goal.found-requires
found-requires c = ap is_simple_and_free c.in_ok-udffsck.ensures ∙ udffsck_simple

pub returns-in-Ok-clause-medium : goal.returns-in-Ok-clause-medium
returns-in-Ok-clause-medium c =
    let words : List (List ℕ) = map string_bytes c.args.words.now in
    let matches = c.in_ok-matches.matches in
    let found : found_in udffsck_app words ≡ Ok (rows_seen matches) =
    ap (λ (app : App). found_in app words) (sym c.in_ok-udffsck.ensures) ∙ c.in_ok-matches.ensures.found in
    ap (λ (rows : List Row). value_in (codes "medium") rows) (found_is udffsck_app words (rows_seen matches) found)
    ∙ medium_found c.in_ok-udffsck.field-0 matches c.in_ok-matches.ensures.parsed c.in_ok-udffsck.ensures
    ∙ ap Some (sym c.in-Ok.ensures.medium)
