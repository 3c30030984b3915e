-- Which words have which cause.
use Rattle.std.proofs.Common.{◌≡◌, ◌∙◌, ℕ, Bool, true, false, sym, ap, List, [], ◌∷◌, Option, Some, None, option_map, Result, Ok, Err}
use Rattle.std.proofs.Common as common
use Rattle.clap.specs.Words.{Row, fault_of, matches_of}
use Rattle.udf_words.specs.Arguments.{value_in}
use Rattle.udf_words.specs.Words.{udffsck_app, size_in, size_by, sized_by, work_by, command_by, command_from, command_in}
use Rattle.udf_words.specs.declared.cause.Cause.TheVariants.{Words}
use Rattle.udf_words.proofs.Founds.{taken, faulty}

worked : (check repair : Bool) (size : Option ℕ) (medium : List ℕ) (side : Option (List ℕ)) → work_by check repair size medium side ≡ Err Words → ⊥
worked true false size medium side e = cc
worked false true size medium side e = cc
worked true true size medium side e = cc
worked false false size medium side e = cc

sized : (size : Option (Option ℕ)) (rows : List Row) → sized_by (size_by size) rows ≡ Err Words → ⊥
sized None rows e = worked _ _ _ _ _ e
sized (Some None) rows e = cc
sized (Some (Some size)) rows e = worked _ _ _ _ _ e

pub read_in : (words : List (List ℕ)) → fault_of udffsck_app words ≡ [] → command_in words ≡ command_by (matches_of udffsck_app words)
unfolding command_in
read_in words none = ap command_from (taken udffsck_app words none)

never : (rows : List Row) → command_by rows ≡ Err Words → ⊥
unfolding command_by
never rows e = sized (option_map size_in (value_in (common.codes "blocksize") rows)) rows e

-- `clap` refuses the words, where they are the cause
pub is_refused : (words : List (List ℕ)) → command_in words ≡ Err Words → fault_of udffsck_app words ≡ [] → ⊥
is_refused words e none = never _ (sym (read_in words none) ∙ e)

-- and they are the cause where it does
pub is_cause : (words : List (List ℕ)) → (fault_of udffsck_app words ≡ [] → ⊥) → command_in words ≡ Err Words
unfolding command_in
is_cause words some = ap command_from (faulty udffsck_app words some)
