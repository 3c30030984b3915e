-- What a side file is, and what it stands for, by its length, name, gate and grammar.
use Rattle.std.proofs.Common.{◌≡◌, ◌≢◌, ⊎_elim, ◌<◌, ◌≤◌, ℕ, ◌==◌, nat_le, true, false, if◌then◌else◌, List, [], ◌∷◌, length, drop, refl, sym, ◌∙◌, ap, subst, arith, Result, Ok, Err}
use Rattle.std.specs.Str.{bytes_eq}
use Rattle.std.proofs.lemmas.Slice.Eq.{bytes_eq-Decides}
use Rattle.std.proofs.lemmas.Bool.{cond-true, cond-false, cases_Bool, cases_lt, cases_eq, le-leb, lt-leb, eq-eqb, ne_eqb}
use Rattle.udf_model.specs.Bytes.{number_at}
use Rattle.udf_outside.specs.Stops.{slice_of}
use Rattle.udf_redo.specs.declared.head.LogHead.{LogHead}
use Rattle.udf_redo.specs.declared.side.SideState.{SideState}
use Rattle.udf_redo.specs.declared.side.SideState.TheVariants.{Empty, Closed, Open}
use Rattle.udf_redo.specs.declared.stop.RedoStop.{RedoStop}
use Rattle.udf_redo.specs.declared.stop.RedoStop.TheVariants.{NotALog, BadLog}
use Rattle.udf_redo.specs.Log.{name, gate, head_in, records_of, is_log, is_log_of, open_answer, state_of, opened}
use Rattle.udf_redo.specs.Settled.{applied_to, settled_by, settled, IsOpenLog}
use Rattle.udf_redo.specs.Front.{IsShut}

abbrev State : Type 0
State = Result SideState RedoStop

-- the tests that an open file of more than nine bytes passes
pub record Opens (side : List ℕ) : Type 0 where
  pub long : 10 ≤ length side
  pub named : slice_of side 1 8 ≡ name
  pub gated : gate side ≡ 0x4F
  pub lawful : is_log side ≡ true

abbrev behind_gate : List ℕ → State
behind_gate side = if gate side == 0x4F then open_answer side else Ok Closed

abbrev behind_name : List ℕ → State
behind_name side = if bytes_eq (slice_of side 1 8) name then behind_gate side else Err NotALog

pub state_short : (side : List ℕ) → length side ≤ 9 → state_of side ≡ Ok Empty
unfolding state_of
state_short side short = cond-true (nat_le (length side) 9) (Ok Empty) (behind_name side) (le-leb (length side) 9 short)

state_long : (side : List ℕ) → 9 < length side → state_of side ≡ behind_name side
unfolding state_of
state_long side long = cond-false (nat_le (length side) 9) (Ok Empty) (behind_name side) (lt-leb (length side) 9 long)

pub state_foreign : (side : List ℕ) → 9 < length side → bytes_eq (slice_of side 1 8) name ≡ false → state_of side ≡ Err NotALog
state_foreign side long foreign = state_long side long ∙ cond-false (bytes_eq (slice_of side 1 8) name) (behind_gate side) (Err NotALog) foreign

state_named : (side : List ℕ) → 9 < length side → bytes_eq (slice_of side 1 8) name ≡ true → state_of side ≡ behind_gate side
state_named side long named = state_long side long ∙ cond-true (bytes_eq (slice_of side 1 8) name) (behind_gate side) (Err NotALog) named

is_named : (side : List ℕ) → slice_of side 1 8 ≡ name → bytes_eq (slice_of side 1 8) name ≡ true
is_named side named = (bytes_eq-Decides (slice_of side 1 8) name).1 named

pub state_closed : (side : List ℕ) → 9 < length side → slice_of side 1 8 ≡ name → gate side ≢ 0x4F → state_of side ≡ Ok Closed
state_closed side long named shut =
    state_named side long (is_named side named) ∙ cond-false (gate side == 0x4F) (open_answer side) (Ok Closed) (ne_eqb (gate side) 0x4F shut)

pub state_opened : (side : List ℕ) → 9 < length side → slice_of side 1 8 ≡ name → gate side ≡ 0x4F → state_of side ≡ open_answer side
state_opened side long named is =
    state_named side long (is_named side named) ∙ cond-true (gate side == 0x4F) (open_answer side) (Ok Closed) (eq-eqb (gate side) 0x4F is)

pub lawful_answer : (side : List ℕ) → is_log side ≡ true → open_answer side ≡ Ok (Open (head_in side))
unfolding open_answer
lawful_answer side lawful = cond-true (is_log side) (Ok (Open (head_in side))) (Err BadLog) lawful

pub bad_answer : (side : List ℕ) → is_log side ≡ false → open_answer side ≡ Err BadLog
unfolding open_answer
bad_answer side bad = cond-false (is_log side) (Ok (Open (head_in side))) (Err BadLog) bad

pub opens_state : (side : List ℕ) → Opens side → state_of side ≡ Ok (Open (head_in side))
opens_state side opens = state_opened side opens.long opens.named opens.gated ∙ lawful_answer side opens.lawful

-- what an answer tells: one case for each state
pub state_cases : (side : List ℕ) (P : State → Type 0) → (length side ≤ 9 → P (Ok Empty)) → (9 < length side → P (Err NotALog)) → (9 < length side → slice_of side 1 8 ≡ name → gate side ≢ 0x4F → P (Ok Closed))
    → (9 < length side → gate side ≡ 0x4F → P (Err BadLog)) → (Opens side → P (Ok (Open (head_in side)))) → P (state_of side)
state_cases side P short foreign shut bad opens =
    ⊎_elim
    (λ long. ⊎_elim
    (λ named.
    let is_name : slice_of side 1 8 ≡ name = (bytes_eq-Decides (slice_of side 1 8) name).0 named in
    ⊎_elim
    (λ is. ⊎_elim
    (λ lawful. let all : Opens side = record { long = long; named = is_name; gated = is; lawful = lawful } in subst P (sym (opens_state side all)) (opens all))
    (λ wrong. subst P (sym (state_opened side long is_name is ∙ bad_answer side wrong)) (bad long is))
    (cases_Bool (is_log side)))
    (λ not. subst P (sym (state_closed side long is_name not)) (shut long is_name not))
    (cases_eq (gate side) 0x4F))
    (λ unnamed. subst P (sym (state_foreign side long unnamed)) (foreign long))
    (cases_Bool (bytes_eq (slice_of side 1 8) name)))
    (λ le. subst P (sym (state_short side le)) (short le))
    (cases_lt 9 (length side))

pub opens_from : (side : List ℕ) (head : LogHead) → state_of side ≡ Ok (Open head) → Opens side × (head ≡ head_in side)
opens_from side head =
    state_cases side (λ state. state ≡ Ok (Open head) → Opens side × (head ≡ head_in side))
    (λ le e. cc) (λ long e. cc) (λ long named shut e. cc) (λ long is e. cc) (λ opens e. (opens, cc))

-- a closed log begins with the name and a gate that is not open
pub shut_from : (side : List ℕ) → state_of side ≡ Ok Closed → IsShut side
shut_from side =
    state_cases side (λ state. state ≡ Ok Closed → IsShut side)
    (λ le e. cc) (λ long e. cc) (λ long named shut e. record { long = omega arith; named = named; not_open = shut }) (λ long is e. cc) (λ opens e. cc)

pub settled_short : (image side : List ℕ) → length side ≤ 9 → settled (image, side) ≡ image
unfolding settled
settled_short image side short = ap (λ (state : State). settled_by state side image) (state_short side short)

pub settled_shut : (image side : List ℕ) → gate side ≢ 0x4F → settled (image, side) ≡ image
unfolding settled
settled_shut image side not =
    state_cases side (λ state. settled_by state side image ≡ image) (λ le. refl) (λ long. refl) (λ long named shut. refl) (λ long is. absurd (not is)) (λ opens. absurd (not opens.gated))

pub settled_open : (image side : List ℕ) → IsOpenLog side image → settled (image, side) ≡ applied_to side image
unfolding settled
settled_open image side log =
    ap (λ (state : State). settled_by state side image) log.lawful ∙ cond-true (is_log_of (head_in side) image) (applied_to side image) image log.same_image

-- ---- the gate

pub same_head : (side : List ℕ) (byte : ℕ) → 0 < length side → head_in (byte ∷ drop 1 side) ≡ head_in side
unfolding number_at
same_head [] byte some = absurd (omega arith)
same_head (x ∷ rest) byte some = refl

pub same_records : (side : List ℕ) (byte : ℕ) → 0 < length side → records_of (byte ∷ drop 1 side) ≡ records_of side
unfolding number_at
same_records [] byte some = absurd (omega arith)
same_records (x ∷ rest) byte some = refl

pub same_applied : (side image : List ℕ) (byte : ℕ) → 0 < length side → applied_to (byte ∷ drop 1 side) image ≡ applied_to side image
unfolding number_at
same_applied [] image byte some = absurd (omega arith)
same_applied (x ∷ rest) image byte some = refl

-- an open file is its gate and the rest
pub opens_is : (side : List ℕ) → Opens side → side ≡ opened side
opens_is [] opens = absurd (omega (arith, opens.long))
opens_is (x ∷ rest) opens = ap (λ (n : ℕ). n ∷ rest) opens.gated

-- with another first byte it is closed
pub shut_gate : (rest : List ℕ) (byte : ℕ) → Opens (0x4F ∷ rest) → byte ≢ 0x4F → state_of (byte ∷ rest) ≡ Ok Closed
shut_gate rest byte opens not = state_closed (byte ∷ rest) opens.long opens.named not

pub open_log_opens : (side image : List ℕ) → IsOpenLog side image → Opens side
open_log_opens side image log = (opens_from side (head_in side) log.lawful).0

-- a side file that is no open log of the image
pub settled_other : (image side : List ℕ) → (IsOpenLog side image → ⊥) → settled (image, side) ≡ image
unfolding settled
settled_other image side none =
    state_cases side (λ state. state_of side ≡ state → settled_by state side image ≡ image) (λ le e. refl) (λ long e. refl) (λ long named shut e. refl) (λ long is e. refl)
    (λ opens e. ⊎_elim (λ of. absurd (none (record { lawful = e; same_image = of })))
    (λ not. cond-false (is_log_of (head_in side) image) (applied_to side image) image not) (cases_Bool (is_log_of (head_in side) image))) refl
