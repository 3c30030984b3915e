-- What stops leave of a side file that is written in its first bytes, behind them, or in its first byte: whatever the log is.
use Rattle.std.proofs.Common.{◌≡◌, ◌<◌, ◌≤◌, ℕ, List, [], ◌∷◌, length, drop, take, refl, sym, ◌∙◌, ap, subst, arith, Result}
use Rattle.std.proofs.lemmas.List.{take-take, length-take-le}
use Rattle.udf_outside.specs.declared.bench.Role.TheVariants.{Image, Side}
use Rattle.udf_outside.specs.Stops.{Held, Pair, bytes_of, pair_of, Torn, IsSynced, Writes}
use Rattle.udf_outside.specs.Run.{Runs}
use Rattle.udf_outside.proofs.Runs.{runs_start, runs_write}
use Rattle.udf_redo.specs.Front.{IsShort, BeginsWith, IsGated}

-- any first byte, and the rest as it was
torn_first : (old new : List ℕ) → 0 < length old → Torn 0 1 old new → (byte : ℕ) × (new ≡ byte ∷ drop 1 old)
torn_first [] new some torn = absurd (omega arith)
torn_first (x ∷ old) [] some torn = absurd (omega (arith, torn.no_shorter))
torn_first (x ∷ old) (y ∷ new) some torn = (y, ap (λ (l : List ℕ). y ∷ l) torn.after)

first_of : (bytes : List ℕ) → 0 < length bytes → (byte : ℕ) × (bytes ≡ byte ∷ drop 1 bytes)
first_of [] some = absurd (omega arith)
first_of (x ∷ bytes) some = (x, refl)

part0 : (pair : Pair) (held : Held) → pair ≡ pair_of held → pair.0 ≡ bytes_of Image held
part0 pair held is = ap (λ (p : Pair). p.0) is

part1 : (pair : Pair) (held : Held) → pair ≡ pair_of held → pair.1 ≡ bytes_of Side held
part1 pair held is = ap (λ (p : Pair). p.1) is

module _ (start : Held) (settled : IsSynced start) where
  abbrev image : List ℕ
  image = bytes_of Image start

  abbrev side : List ℕ
  side = bytes_of Side start

  -- a write of the first byte
  pub gate_runs : (new : Held) (gate : ℕ) {T E : Type 0} (result : Result T E) → 0 < length side → Writes Side 0 (gate ∷ []) start new result
      → Runs start new (IsGated image (drop 1 side)) (IsGated image (drop 1 side))
  gate_runs new gate result some writes =
      let P : Pair → Type 0 = IsGated image (drop 1 side) in
      let Q : Pair → Type 0 = λ pair. (pair.0 ≡ image) × (pair.1 ≡ side) in
      let begun : Runs start start P Q = runs_start start P Q (λ pair now. let is = settled pair now in (part0 pair start is, part1 pair start is))
      (λ pair is. let first = first_of side some in (is.0, (first.0, is.1 ∙ first.1))) in
      runs_write start start new P Q P Side 0 (gate ∷ []) result begun (omega arith) writes
      (λ before pair was torn same. (sym same ∙ was.0, torn_first side pair.1 some (subst (λ (s : List ℕ). Torn 0 1 s pair.1) was.1 torn)))
      (λ pair is. is)

  -- a write over a file of at most so many bytes, of so many bytes
  pub short_runs : (new : Held) (bytes : List ℕ) {T E : Type 0} (result : Result T E) → length side ≤ length bytes → Writes Side 0 bytes start new result
      → Runs start new (IsShort image (length bytes)) (IsShort image (length bytes))
  short_runs new bytes result short writes =
      let P : Pair → Type 0 = IsShort image (length bytes) in
      let begun : Runs start start P P = runs_start start P P (λ pair now. let is = settled pair now in (part0 pair start is, omega (arith, ap length (part1 pair start is)))) (λ pair is. is) in
      runs_write start start new P P P Side 0 bytes result begun (omega arith) writes
      (λ before pair was torn same. (sym same ∙ was.0, omega (arith, was.1, torn.no_longer)))
      (λ pair is. is)

  -- writes behind so many first bytes, which the file has
  module _ (offset : ℕ) (long : offset ≤ length side) where
    abbrev Begins : Pair → Type 0
    Begins = BeginsWith image (take offset side)

    front : length (take offset side) ≡ offset
    front = length-take-le offset side long

    pub behind_begins : Runs start start Begins Begins
    behind_begins =
        runs_start start Begins Begins
        (λ pair now. let is = settled pair now in
        (part0 pair start is, ap (λ (l : List ℕ). take (length (take offset side)) l) (part1 pair start is) ∙ ap (λ (n : ℕ). take n side) front))
        (λ pair is. is)

    pub behind_turn : (now new : Held) (at : ℕ) (bytes : List ℕ) {T E : Type 0} (result : Result T E) → Runs start now Begins Begins → offset ≤ at → at ≤ length (bytes_of Side now)
        → Writes Side at bytes now new result → Runs start new Begins Begins
    behind_turn now new at bytes result runs behind within writes =
        let less : length (take offset side) ≤ at = omega (arith, front) in
        runs_write start now new Begins Begins Begins Side at bytes result runs within writes
        (λ before pair was torn same. (
          sym same ∙ was.0,
          sym (take-take (length (take offset side)) at pair.1 less) ∙ ap (λ (l : List ℕ). take (length (take offset side)) l) torn.before
              ∙ take-take (length (take offset side)) at before.1 less ∙ was.1,
        ))
        (λ pair is. is)
