-- What is read of a log at its places.
use Rattle.std.proofs.Common.{◌≡◌, ◌<◌, ◌≤◌, ℕ, suc, ◌+◌, ◌*◌, ◌-◌, ◌&&◌, nat_le, nat_lt, Bool, true, false, List, length, drop, take, sym, ◌∙◌, ap, arith, add-one, lit≤, get_or, not, lit<, Some, slice_get, Ok, Err}
use Rattle.std.proofs.Math.Nat.{suc-mul, mul-le-mul_right}
use Rattle.std.proofs.lemmas.List.{drop-drop, drop-take, take-take, get_or-take}
use Rattle.std.proofs.lemmas.Bool.{and_parts, and_from, and_left, and_right, leb-true, ltb-true, le-leb, lt-leb, not-true, not-false}
use Rattle.std.specs.Str.{bytes_eq}
use Rattle.std.proofs.lemmas.Slice.Eq.{bytes_eq-Decides}
use Rattle.byteorder.specs.Endian.{little_number}
use Rattle.byteorder.specs.Numbers.{little_from-take}
use Rattle.udf_model.specs.Bytes.{number_at}
use Rattle.udf_outside.specs.Stops.{slice_of}
use Rattle.udf_redo.specs.Log.{Edit}
use Rattle.udf_redo.specs.declared.head.LogHead.{LogHead}
use Rattle.udf_redo.specs.declared.side.SideState.TheVariants.{Open}
use Rattle.udf_redo.specs.declared.stop.RedoStop.TheVariants.{BadLog}
use Rattle.udf_model.specs.Size.{is_size}
use Rattle.udf_redo.specs.Log.{name, gate, head_in, records_in, records_of, is_head, may_stand, are_lawful, log_length, is_log, open_answer}
use Rattle.udf_model.proofs.Sizes.{size_cases}
use Rattle.udf_redo.proofs.Lawful.{record_at}
use Rattle.udf_redo.proofs.Reading.{same_fields}
use Rattle.udf_redo.proofs.States.{bad_answer, lawful_answer}

pub record Head (head : LogHead) : Type 0 where
  pub large : 512 ≤ head.size
  pub small : head.size ≤ 4096
  pub sealed : 0 < head.sealed
  pub inside : head.first + head.sealed ≤ head.blocks
  pub some : 0 < head.records

pub head_parts : (head : LogHead) → is_head head ≡ true → Head head
unfolding is_head
head_parts head test =
    let first = and_parts (is_size head.size) _ test in
    let rest = and_parts (nat_lt 0 head.sealed) _ first.1 in
    let last = and_parts (nat_le (head.first + head.sealed) head.blocks) _ rest.1 in
    let sizes = size_cases head.size first.0 in
    record { large = sizes.0; small = sizes.1; sealed = ltb-true _ _ rest.0; inside = leb-true _ _ last.0; some = ltb-true _ _ last.1 }

-- the number in four bytes that were read
number_read : (side : List ℕ) (at number : ℕ) (four : List ℕ) → four ≡ slice_of side at 4 → number ≡ little_number 4 four → number ≡ number_at 4 (drop at side) 0
unfolding number_at
number_read side at number four read is = is ∙ ap (λ (l : List ℕ). little_number 4 l) read ∙ little_from-take 0 4 4 (drop at side) (lit≤ tt)

-- a record begins so far before the end of its log
pub record_within : (head : LogHead) (k : ℕ) → k < head.records → 61 + k * (4 + head.size) + (4 + head.size) ≤ log_length head
record_within head k lt =
    let less : suc k * (4 + head.size) ≤ head.records * (4 + head.size) = mul-le-mul_right (4 + head.size) lt in
    omega (arith, less, suc-mul k (4 + head.size))

pub found : (side : List ℕ) (head : LogHead) (k at sector : ℕ) (four block : List ℕ) → k < head.records → at ≡ 61 + k * (4 + head.size)
    → four ≡ slice_of side at 4 → sector ≡ little_number 4 four → block ≡ slice_of side (at + 4) head.size
    → slice_get (records_in head.size head.records (drop 61 side)) k ≡ Some (sector, block)
found side head k at sector four block lt place read number body =
    let size = head.size in
    let there : drop (k * (4 + size)) (drop 61 side) ≡ drop at side = drop-drop (k * (4 + size)) 61 side ∙ ap (λ (i : ℕ). drop i side) (sym place) in
    let sector_is : number_at 4 (drop at side) 0 ≡ sector = sym (number_read side at sector four read number) in
    let block_is : slice_of (drop at side) 4 size ≡ block = ap (λ (l : List ℕ). take size l) (drop-drop 4 at side) ∙ sym body in
    record_at size head.records (drop 61 side) k lt ∙ ap (λ (l : List ℕ). let e : Edit = (number_at 4 l 0, slice_of l 4 size) in Some e) there
    ∙ ap (λ (n : ℕ). let e : Edit = (n, slice_of (drop at side) 4 size) in Some e) sector_is ∙ ap (λ (b : List ℕ). let e : Edit = (sector, b) in Some e) block_is

-- the records from one on
abbrev pub left : List ℕ → LogHead → ℕ → List Edit
left side head k = records_in head.size (head.records - k) (drop (61 + k * (4 + head.size)) side)

pub left_first : (side : List ℕ) (head : LogHead) → records_in head.size head.records (drop 61 side) ≡ left side head 0
left_first side head =
    let at : 61 ≡ 61 + 0 * (4 + head.size) = omega arith in
    let all : head.records ≡ head.records - 0 = omega arith in
    ap (λ (n : ℕ). records_in head.size n (drop 61 side)) all ∙ ap (λ (i : ℕ). records_in head.size (head.records - 0) (drop i side)) at

-- one record more is looked at
pub lawful_turn : (side : List ℕ) (head : LogHead) (least k sector : ℕ) (four : List ℕ) → k < head.records → four ≡ slice_of side (61 + k * (4 + head.size)) 4 → sector ≡ little_number 4 four
    → are_lawful head least (left side head k) ≡ (may_stand head least sector && are_lawful head (sector + 1) (left side head (k + 1)))
unfolding are_lawful records_in
lawful_turn side head least k sector four lt read number =
    let size = head.size in
    let at = 61 + k * (4 + size) in
    let more : head.records - k ≡ suc (head.records - (k + 1)) = omega arith in
    let step : at + (4 + size) ≡ 61 + (k + 1) * (4 + size) = omega (arith, ap (λ (n : ℕ). n * (4 + size)) (add-one k), suc-mul k (4 + size)) in
    let next : drop (4 + size) (drop at side) ≡ drop (61 + (k + 1) * (4 + size)) side = drop-drop (4 + size) at side ∙ ap (λ (i : ℕ). drop i side) step in
    let sector_is : number_at 4 (drop at side) 0 ≡ sector = sym (number_read side at sector four read number) in
    ap (λ (n : ℕ). are_lawful head least (records_in size n (drop at side))) more
    ∙ ap (λ (n : ℕ). may_stand head least n && are_lawful head (n + 1) (records_in size (head.records - (k + 1)) (drop (4 + size) (drop at side)))) sector_is
    ∙ ap (λ (l : List ℕ). may_stand head least sector && are_lawful head (sector + 1) (records_in size (head.records - (k + 1)) l)) next

pub lawful_end : (side : List ℕ) (head : LogHead) (least k : ℕ) → head.records ≤ k → are_lawful head least (left side head k) ≡ true
unfolding are_lawful records_in
lawful_end side head least k le =
    let none : head.records - k ≡ 0 = omega arith in
    ap (λ (n : ℕ). are_lawful head least (records_in head.size n (drop (61 + k * (4 + head.size)) side))) none

-- ---- the head

number_front : (side : List ℕ) (at m : ℕ) → 4 ≤ m → number_at 4 (take (at + m) side) at ≡ number_at 4 side at
unfolding number_at
number_front side at m le = ap (λ (l : List ℕ). little_number 4 l) (drop-take at m side) ∙ little_from-take 0 4 m (drop at side) (omega arith)

-- the head of a file is that of its first 61 bytes
pub head_front : (side : List ℕ) → head_in (take 61 side) ≡ head_in side
head_front side =
    let seal : slice_of (take 61 side) 25 32 ≡ slice_of side 25 32 = ap (λ (l : List ℕ). take 32 l) (drop-take 25 36 side) ∙ take-take 32 36 (drop 25 side) (lit≤ tt) in
    same_fields _ _ _ _ _ _ _ _ _ _ _ _ (number_front side 9 52 (lit≤ tt)) (number_front side 13 48 (lit≤ tt)) (number_front side 17 44 (lit≤ tt)) (number_front side 21 40 (lit≤ tt)) seal (number_front side 57 4 (lit≤ tt))

pub short_log : (side : List ℕ) → length side < 61 → open_answer side ≡ Err BadLog
unfolding is_log
short_log side short =
    bad_answer side (and_right (is_head (head_in side)) _ (and_left (nat_le (log_length (head_in side)) (length side)) _ (lt-leb (log_length (head_in side)) (length side) (omega arith))))

pub unlawful_head : (side : List ℕ) → is_head (head_in side) ≡ false → open_answer side ≡ Err BadLog
unfolding is_log
unlawful_head side wrong = bad_answer side (and_left (is_head (head_in side)) _ wrong)

pub cut_log : (side : List ℕ) → length side < log_length (head_in side) → open_answer side ≡ Err BadLog
unfolding is_log
cut_log side short = bad_answer side (and_right (is_head (head_in side)) _ (and_left (nat_le (log_length (head_in side)) (length side)) _ (lt-leb (log_length (head_in side)) (length side) short)))

pub unlawful_records : (side : List ℕ) → are_lawful (head_in side) 0 (records_of side) ≡ false → open_answer side ≡ Err BadLog
unfolding is_log
unlawful_records side wrong = bad_answer side (and_right (is_head (head_in side)) _ (and_right (nat_le (log_length (head_in side)) (length side)) _ wrong))

pub lawful_log : (side : List ℕ) → is_head (head_in side) ≡ true → log_length (head_in side) ≤ length side → are_lawful (head_in side) 0 (records_of side) ≡ true → open_answer side ≡ Ok (Open (head_in side))
unfolding is_log
lawful_log side head enough sectors = lawful_answer side (and_from _ _ head (and_from _ _ (le-leb (log_length (head_in side)) (length side) enough) sectors))

-- the last record looked at may not stand
pub lawful_stops : (b : Bool) (rest : Bool) → b ≡ false → (b && rest) ≡ false
lawful_stops b rest is = and_left b rest is

pub lawful_goes_on : (b : Bool) (rest : Bool) → b ≡ true → (b && rest) ≡ rest
lawful_goes_on b rest is = ap (λ (x : Bool). x && rest) is

-- ---- the first nine bytes

front_name : (side front : List ℕ) → front ≡ take 9 side → take 8 (drop 1 front) ≡ slice_of side 1 8
front_name side front is = ap (λ (l : List ℕ). take 8 (drop 1 l)) is ∙ ap (λ (l : List ℕ). take 8 l) (drop-take 1 8 side) ∙ take-take 8 8 (drop 1 side) (lit≤ tt)

pub front_gate : (side front : List ℕ) → front ≡ take 9 side → get_or front 0 0 ≡ gate side
front_gate side front is = ap (λ (l : List ℕ). get_or l 0 0) is ∙ get_or-take 9 side 0 0 (lit< tt)

-- what a comparison with the name tells
compared : (side front expected : List ℕ) (b : Bool) → front ≡ take 9 side → expected ≡ name → b ≡ not (bytes_eq (take 8 (drop 1 front)) expected) → b ≡ not (bytes_eq (slice_of side 1 8) name)
compared side front expected b is name_is ne = ne ∙ ap (λ (l : List ℕ). not (bytes_eq l expected)) (front_name side front is) ∙ ap (λ (l : List ℕ). not (bytes_eq (slice_of side 1 8) l)) name_is

pub another_name : (side front expected : List ℕ) → front ≡ take 9 side → expected ≡ name → true ≡ not (bytes_eq (take 8 (drop 1 front)) expected) → bytes_eq (slice_of side 1 8) name ≡ false
another_name side front expected is name_is ne = not-true _ (sym (compared side front expected true is name_is ne))

pub the_name : (side front expected : List ℕ) → front ≡ take 9 side → expected ≡ name → false ≡ not (bytes_eq (take 8 (drop 1 front)) expected) → slice_of side 1 8 ≡ name
the_name side front expected is name_is ne = (bytes_eq-Decides (slice_of side 1 8) name).0 (not-false _ (sym (compared side front expected false is name_is ne)))
