-- What words ask for decides what a run answers and prints.
use Rattle.std.proofs.Common.{◌≡◌, ℕ, zero, suc, ◌++◌, refl, sym, ◌∙◌, ap, subst, List, [], Option, Some, None, Result, Err, take}
use Rattle.std.proofs.lemmas.List.{append-nil}
use Rattle.udf_outside.specs.Stops.{Pair}
use Rattle.udf_words.specs.declared.cause.Cause.{Cause}
use Rattle.udf_top.specs.declared.outcome.Outcome.{Outcome}
use Rattle.udf_top.specs.declared.outcome.Outcome.TheVariants as outcome
use Rattle.udf_words.specs.declared.cause.WordsStop.{WordsStop}
use Rattle.udf_words.specs.declared.cause.WordsStop.TheVariants.{Usage}
use Rattle.udf_words.specs.Asked.{ReadsOrStops, command_seen}
use Rattle.udf_words.specs.Words.{Command, command_in}
use Rattle.udf_top.specs.Words.{Repair, repair_by, repair_in}
use Rattle.udf_top.specs.Texts.{text_of}
use Rattle.udf_top.specs.Endings.{HasEnded}
use Rattle.udf_top.specs.Udffsck.{outcome_by, outcome_of, said_by, output_of, text_by, HoldsFront}
use Rattle.udf_top.proofs.Outcomes.{nothing_of}

-- what is read of words that are refused
pub refused_words : (words : List (List ℕ)) (stop : WordsStop) (cause : Cause) → stop ≡ Usage cause
    → ReadsOrStops command_seen (command_in words) (Err stop) → command_in words ≡ Err cause
refused_words words stop cause is read = subst (λ (s : WordsStop). ReadsOrStops command_seen (command_in words) (Err s)) is read

module _ (words : List (List ℕ)) (read : Result Command Cause) (is : command_in words ≡ read) where
  pub outcome_is : (pair : Pair) → outcome_of words pair ≡ outcome_by read pair
  unfolding outcome_of
  outcome_is pair = ap (λ (r : Result Command Cause). outcome_by r pair) is

  pub output_is : (pair : Pair) → output_of words pair ≡ said_by read pair
  unfolding output_of
  output_is pair = ap (λ (r : Result Command Cause). said_by r pair) is

  pub repair_is : repair_in words ≡ repair_by read
  unfolding repair_in
  repair_is = ap repair_by is

  pub text_is : (o : Outcome) → text_by (command_in words) o ≡ text_by read o
  text_is o = ap (λ (r : Result Command Cause). text_by r o) is

  -- no repair is none of these
  pub none_asked : repair_by read ≡ None → (repair : Repair) → repair_in words ≡ Some repair → ⊥
  none_asked none repair e = absurd (let no : None ≡ Some repair = sym (repair_is ∙ none) ∙ e in cc)

take_none : (k : ℕ) → take {A = ℕ} k [] ≡ []
take_none zero = refl
take_none (suc k) = refl

pub front_of_none : (told : Option (List ℕ)) (before text : List ℕ) → HoldsFront told before [] → HoldsFront told before text
front_of_none told before text (k, e) = nothing_of told before text (e ∙ ap (λ (t : List ℕ). Some (before ++ t)) (take_none k) ∙ ap (λ (t : List ℕ). Some t) (append-nil before))

-- what was put for an outcome is a front of what the wanted one says
module _ (told : Option (List ℕ)) (before medium : List ℕ) (wanted : Outcome) where
  abbrev Front : Outcome → Type 0
  Front o = HoldsFront told before (text_of medium o)

  pub front_by : (o : Outcome) → (HasEnded o → o ≡ wanted) → HoldsFront told before (text_of medium o) → HoldsFront told before (text_of medium wanted)
  unfolding text_of
  front_by outcome.Clean is held = subst Front (is tt) held
  front_by (outcome.Repaired replayed written) is held = front_of_none told before _ held
  front_by (outcome.Broken findings) is held = subst Front (is tt) held
  front_by (outcome.Refused missing) is held = subst Front (is tt) held
  front_by (outcome.Usage cause) is held = subst Front (is tt) held
  front_by outcome.SameFile is held = subst Front (is tt) held
  front_by outcome.NotALog is held = subst Front (is tt) held
  front_by outcome.BadLog is held = subst Front (is tt) held
  front_by (outcome.WrongImage clash) is held = subst Front (is tt) held
  front_by outcome.DeviceFault is held = front_of_none told before _ held
  front_by outcome.OutFault is held = front_of_none told before _ held
  front_by outcome.Memory is held = front_of_none told before _ held
