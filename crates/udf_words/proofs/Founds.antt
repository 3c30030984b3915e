-- What `clap` answers decides what is found.
use Rattle.std.proofs.Common.{◌≡◌, ℕ, Bool, cond, true, false, refl, ap, arith, List, [], ◌∷◌, Result, Ok, Err, inl, inr, ne_eqb}
use Rattle.clap.specs.Words.{App, Row, HasKind, IsAmong, Kinds, fault_of, matches_of}
use Rattle.clap.specs.Values.{kind_of}
use Rattle.clap.specs.Walk.{is_empty}
use Rattle.clap.specs.declared.error.Error.{Error}
use Rattle.clap.specs.declared.error.kind.ErrorKind.{ErrorKind}
use Rattle.clap.specs.declared.error.kind.ErrorKind.TheVariants.{OutOfMemory}
use Rattle.udf_words.specs.Arguments.{found_in}
use Rattle.udf_words.specs.declared.cause.Cause.{Cause}
use Rattle.udf_words.specs.declared.cause.Cause.TheVariants.{Words}

-- a list with a kind is not empty
has_one : (kind : ErrorKind) (kinds : Kinds) → IsAmong kind kinds → is_empty kinds ≡ false
has_one kind [] among = absurd among
has_one kind (first ∷ rest) among = ne_eqb _ _ (λ e. omega arith)

not_none : (kinds : Kinds) → (kinds ≡ [] → ⊥) → is_empty kinds ≡ false
not_none [] some = absurd (some refl)
not_none (first ∷ rest) some = ne_eqb _ _ (λ e. omega arith)

abbrev answer_by : App → List (List ℕ) → Bool → Result (List Row) Cause
answer_by app words takes = cond takes (Ok (matches_of app words)) (Err Words)

module _ (app : App) (words : List (List ℕ)) where
  pub taken : fault_of app words ≡ [] → found_in app words ≡ Ok (matches_of app words)
  unfolding found_in
  taken none = ap (λ (kinds : Kinds). answer_by app words (is_empty kinds)) none

  pub refused : (error : Error) → (kind_of error ≡ OutOfMemory → ⊥) → HasKind (fault_of app words) error → found_in app words ≡ Err Words
  unfolding found_in
  refused error not_memory kind = elim kind [
    | inl memory ↦ absurd (not_memory memory)
    | inr among ↦ ap (answer_by app words) (has_one (kind_of error) (fault_of app words) among)
  ]

  pub faulty : (fault_of app words ≡ [] → ⊥) → found_in app words ≡ Err Words
  unfolding found_in
  faulty some = ap (answer_by app words) (not_none (fault_of app words) some)

  pub found_is : (rows : List Row) → found_in app words ≡ Ok rows → matches_of app words ≡ rows
  unfolding found_in
  found_is rows e = go (is_empty (fault_of app words)) e
    where
      go : (takes : Bool) → answer_by app words takes ≡ Ok rows → matches_of app words ≡ rows
      go true e = cc
      go false e = cc
