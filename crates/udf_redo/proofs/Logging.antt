-- What the files stand for while a log is written behind a closed gate.
use Rattle.std.proofs.Common.{◌≡◌, ◌⊎◌, inl, inr, ⊎_elim, ◌<◌, ◌≤◌, ℕ, List, ◌∷◌, length, take, drop, get_or, refl, sym, ◌∙◌, ap, subst, arith, Ok}
use Rattle.std.proofs.lemmas.Bool.{cases_lt}
use Rattle.std.proofs.lemmas.List.{drop-take, get_or-take, length-take, length-take-le}
use Rattle.udf_outside.specs.declared.bench.Role.TheVariants.{Image, Side}
use Rattle.udf_outside.specs.Stops.{Held, Pair, bytes_of, IsSynced, LeavesOnly}
use Rattle.udf_outside.proofs.Runs.{leaves_same, leaves_then, leaves_weaker}
use Rattle.udf_redo.specs.Log.{name, state_of}
use Rattle.udf_redo.specs.declared.side.SideState.TheVariants.{Empty}
use Rattle.udf_redo.specs.Settled.{settled, IsFree}
use Rattle.udf_redo.specs.Front.{IsShort, BeginsWith, IsShut}
use Rattle.udf_redo.specs.Runs.{IsLogging}
use Rattle.udf_redo.proofs.States.{state_cases, state_short, state_closed, shut_from, settled_short, settled_shut}

pub short_logging : (image : List ℕ) (pair : Pair) → IsShort image 9 pair → IsLogging image pair
short_logging image pair short = record {
  same_image = short.0;
  gate_last = inl short.1;
  goes_on = inl (inl (state_short pair.1 short.1));
  stands_for = settled_short pair.0 pair.1 short.1 ∙ short.0;
}

pub shut_logging : (image : List ℕ) (pair : Pair) → pair.0 ≡ image → IsShut pair.1 → IsLogging image pair
shut_logging image pair is shut =
    ⊎_elim
    (λ long. record {
      same_image = is;
      gate_last = inr shut.not_open;
      goes_on = inl (inr (state_closed pair.1 long shut.named shut.not_open));
      stands_for = settled_shut pair.0 pair.1 shut.not_open ∙ is;
    })
    (λ le. short_logging image pair (is, le))
    (cases_lt 9 (length pair.1))

-- a file that begins with the first bytes of a closed log
pub begins_shut : (side new : List ℕ) → IsShut side → take (length (take 9 side)) new ≡ take 9 side → IsShut new
begins_shut side new shut same =
    let nine : length (take 9 side) ≡ 9 = length-take-le 9 side shut.long in
    let front : take 9 new ≡ take 9 side = ap (λ (n : ℕ). take n new) (sym nine) ∙ same in
    record {
      long = omega (arith, ap length front, length-take 9 new, nine);
      named = sym (drop-take 1 8 new) ∙ ap (λ (l : List ℕ). drop 1 l) front ∙ drop-take 1 8 side ∙ shut.named;
      not_open = λ is. shut.not_open (sym (get_or-take 9 side 0 0 (omega arith)) ∙ ap (λ (l : List ℕ). get_or l 0 0) (sym front) ∙ get_or-take 9 new 0 0 (omega arith) ∙ is);
    }

pub begins_logging : (image side : List ℕ) → IsShut side → (pair : Pair) → BeginsWith image (take 9 side) pair → IsLogging image pair
begins_logging image side shut pair begins = shut_logging image pair begins.0 (begins_shut side pair.1 shut begins.1)

short_from : (side : List ℕ) → state_of side ≡ Ok Empty → length side ≤ 9
short_from side =
    state_cases side (λ state. state ≡ Ok Empty → length side ≤ 9) (λ le e. le) (λ long e. cc) (λ long named shut e. cc) (λ long is e. cc) (λ opens e. cc)

pub free_cases : (side : List ℕ) → IsFree side → (length side ≤ 9) ⊎ IsShut side
free_cases side free = ⊎_elim (λ empty. inl (short_from side empty)) (λ shut. inr (shut_from side shut)) free

pub free_logging : (image : List ℕ) (pair : Pair) → pair.0 ≡ image → IsFree pair.1 → IsLogging image pair
free_logging image pair is free = ⊎_elim (λ le. short_logging image pair (is, le)) (λ shut. shut_logging image pair is shut) (free_cases pair.1 free)

-- nothing was written yet
pub quiet_logging : (old new : Held) → new ≡ old → IsSynced old → IsFree (bytes_of Side old) → LeavesOnly old new (IsLogging (bytes_of Image old))
quiet_logging old new same settled free =
    leaves_same old new (IsLogging (bytes_of Image old)) same
    (λ pair now. let is = settled pair now in
    free_logging (bytes_of Image old) pair (ap (λ (p : Pair). p.0) is) (subst (λ (s : List ℕ). IsFree s) (sym (ap (λ (p : Pair). p.1) is)) free))

pub named_shut : IsShut (0 ∷ name)
named_shut = record { long = omega arith; named = refl; not_open = λ e. cc }

-- a free file of more than nine bytes
pub long_shut : (side : List ℕ) → IsFree side → 9 < length side → IsShut side
long_shut side free long = ⊎_elim (λ le. absurd (omega arith)) (λ shut. shut) (free_cases side free)

-- the front was made, and then the body is written
pub then_logging : (start middle end : Held) → LeavesOnly start middle (IsLogging (bytes_of Image start)) → bytes_of Image middle ≡ bytes_of Image start → IsShut (bytes_of Side middle)
    → LeavesOnly middle end (BeginsWith (bytes_of Image middle) (take 9 (bytes_of Side middle))) → LeavesOnly start end (IsLogging (bytes_of Image start))
then_logging start middle end first image shut second =
    let weaker : (pair : Pair) → BeginsWith (bytes_of Image middle) (take 9 (bytes_of Side middle)) pair → IsLogging (bytes_of Image start) pair =
    λ pair begins. begins_logging (bytes_of Image start) (bytes_of Side middle) shut pair (begins.0 ∙ image, begins.1) in
    leaves_then start middle end (IsLogging (bytes_of Image start)) first
    (leaves_weaker middle end (BeginsWith (bytes_of Image middle) (take 9 (bytes_of Side middle))) (IsLogging (bytes_of Image start)) weaker second)
