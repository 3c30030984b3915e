-- What is written as a log reads as that log.
use Rattle.std.proofs.Common.{◌≡◌, ◌<◌, ◌≤◌, ◌⊎◌, ⊎_elim, ℕ, suc, ◌+◌, ◌*◌, ◌^◌, true, ◌||◌, List, [], ◌∷◌, ◌++◌, length, drop, refl, sym, ◌∙◌, ap, subst, arith, append_assoc, length-append, nat_le, nat_lt}
use Rattle.std.specs.List.{flat_map, All}
use Rattle.std.proofs.lemmas.List.{take_at, drop_at, drop-drop}
use Rattle.std.proofs.lemmas.Bool.{and_from, le-leb, lt-ltb, or_left, or_right}
use Rattle.std.proofs.Math.Nat.{suc-mul, zero-mul}
use Rattle.byteorder.specs.Endian.{little_number, little_bytes}
use Rattle.byteorder.specs.Numbers.{little_number-reads_back}
use Rattle.udf_model.specs.Bytes.{number_at}
use Rattle.udf_outside.specs.Stops.{slice_of, put}
use Rattle.udf_volume_model.specs.Plans.{ClimbsFrom}
use Rattle.udf_redo.proofs.Lawful.{IsBelow, IsApart, IsBlock, first_is, rest_are}
use Rattle.udf_redo.specs.Log.{Edit}
use Rattle.udf_redo.specs.declared.head.LogHead.{LogHead}
use Rattle.udf_redo.specs.Log.{name, gate, head_in, records_in, records_of, is_head, may_stand, are_lawful, log_length, is_log, head_bytes, record_bytes}

number_back : (x : ℕ) (rest : List ℕ) → x < 2 ^ 32 → little_number 4 (little_bytes 4 x ++ rest) ≡ x
number_back x rest fits = little_number-reads_back 4 x rest fits

-- the sectors are numbers of four bytes
abbrev pub Numbers : List Edit → Type 0
Numbers edits = All (λ edit. edit.0 < 2 ^ 32) edits

abbrev pub Blocks : ℕ → List Edit → Type 0
Blocks size edits = All (λ edit. length edit.1 ≡ size) edits

pub records_back : (size : ℕ) (edits : List Edit) (tail : List ℕ) → Blocks size edits → Numbers edits → records_in size (length edits) (flat_map record_bytes edits ++ tail) ≡ edits
unfolding records_in record_bytes number_at
records_back size [] tail blocks numbers = refl
records_back size (edit ∷ edits) tail blocks numbers =
    let behind = flat_map record_bytes edits ++ tail in
    let block_length : length edit.1 ≡ size = first_is (IsBlock size) edit edits blocks in
    let whole : flat_map record_bytes (edit ∷ edits) ++ tail ≡ little_bytes 4 edit.0 ++ (edit.1 ++ behind) =
    append_assoc (record_bytes edit) (flat_map record_bytes edits) tail ∙ append_assoc (little_bytes 4 edit.0) edit.1 behind in
    let bytes = little_bytes 4 edit.0 ++ (edit.1 ++ behind) in
    let sector : number_at 4 bytes 0 ≡ edit.0 = number_back edit.0 (edit.1 ++ behind) (first_is (λ e. e.0 < 2 ^ 32) edit edits numbers) in
    let block : slice_of bytes 4 size ≡ edit.1 = take_at edit.1 behind size block_length in
    let rest : drop (4 + size) bytes ≡ behind = sym (drop-drop size 4 bytes) ∙ drop_at edit.1 behind size block_length in
    ap (λ (l : List ℕ). records_in size (suc (length edits)) l) whole
    ∙ ap (λ (n : ℕ). let e : Edit = (n, slice_of bytes 4 size) in e ∷ records_in size (length edits) (drop (4 + size) bytes)) sector
    ∙ ap (λ (b : List ℕ). let e : Edit = (edit.0, b) in e ∷ records_in size (length edits) (drop (4 + size) bytes)) block
    ∙ ap (λ (l : List ℕ). edit ∷ records_in size (length edits) l) rest
    ∙ ap (λ (q : List Edit). edit ∷ q) (records_back size edits tail (rest_are (IsBlock size) edit edits blocks) (rest_are (λ e. e.0 < 2 ^ 32) edit edits numbers))

length_records : (size : ℕ) (edits : List Edit) → Blocks size edits → length (flat_map record_bytes edits) ≡ length edits * (4 + size)
unfolding record_bytes
length_records size [] blocks = sym (zero-mul (4 + size))
length_records size (edit ∷ edits) blocks =
    omega (
      arith,
      length-append (record_bytes edit) (flat_map record_bytes edits),
      length-append (little_bytes 4 edit.0) edit.1,
      first_is (IsBlock size) edit edits blocks,
      length_records size edits (rest_are (IsBlock size) edit edits blocks),
      suc-mul (length edits) (4 + size),
    )

-- the file: any gate, the name, the head, the records, and what stood behind them
abbrev pub laid : ℕ → LogHead → List Edit → List ℕ → List ℕ
laid byte head edits tail = byte ∷ (name ++ (head_bytes head ++ (flat_map record_bytes edits ++ tail)))

-- the numbers of a head fit in four bytes, and its seal in its place
pub record Fits (head : LogHead) : Type 0 where
  pub size : head.size < 2 ^ 32
  pub blocks : head.blocks < 2 ^ 32
  pub first : head.first < 2 ^ 32
  pub sealed : head.sealed < 2 ^ 32
  pub seal : length head.seal ≡ 32
  pub records : head.records < 2 ^ 32

abbrev pub head_made : ℕ → ℕ → ℕ → ℕ → List ℕ → ℕ → LogHead
head_made size blocks first sealed seal records = record { size = size; blocks = blocks; first = first; sealed = sealed; seal = seal; records = records }

pub same_fields : (s b f n r s' b' f' n' r' : ℕ) (d d' : List ℕ) → s ≡ s' → b ≡ b' → f ≡ f' → n ≡ n' → d ≡ d' → r ≡ r' → head_made s b f n d r ≡ head_made s' b' f' n' d' r'
same_fields s b f n r s' b' f' n' r' d d' es eb ef en ed er = cc

module _ (byte : ℕ) (head : LogHead) (edits : List Edit) (tail : List ℕ) (fits : Fits head) where
  abbrev t6 : List ℕ
  t6 = flat_map record_bytes edits ++ tail

  abbrev t5 : List ℕ
  t5 = little_bytes 4 head.records ++ t6

  abbrev t4 : List ℕ
  t4 = head.seal ++ t5

  abbrev t3 : List ℕ
  t3 = little_bytes 4 head.sealed ++ t4

  abbrev t2 : List ℕ
  t2 = little_bytes 4 head.first ++ t3

  abbrev t1 : List ℕ
  t1 = little_bytes 4 head.blocks ++ t2

  abbrev file : List ℕ
  file = byte ∷ (name ++ (little_bytes 4 head.size ++ t1))

  spread : laid byte head edits tail ≡ file
  unfolding head_bytes
  spread =
      let last = little_bytes 4 head.records in
      let inner : (head.seal ++ last) ++ t6 ≡ head.seal ++ (last ++ t6) = append_assoc head.seal last t6 in
      ap (λ (l : List ℕ). byte ∷ (name ++ (little_bytes 4 head.size ++ (little_bytes 4 head.blocks ++ (little_bytes 4 head.first ++ (little_bytes 4 head.sealed ++ l)))))) inner

  after_seal : drop 57 file ≡ t5
  after_seal = drop_at head.seal t5 32 fits.seal

  head_there : head_in file ≡ head
  unfolding number_at
  head_there =
      let size : number_at 4 file 9 ≡ head.size = number_back head.size t1 fits.size in
      let blocks : number_at 4 file 13 ≡ head.blocks = number_back head.blocks t2 fits.blocks in
      let first : number_at 4 file 17 ≡ head.first = number_back head.first t3 fits.first in
      let sealed : number_at 4 file 21 ≡ head.sealed = number_back head.sealed t4 fits.sealed in
      let seal : slice_of file 25 32 ≡ head.seal = take_at head.seal t5 32 fits.seal in
      let records : number_at 4 file 57 ≡ head.records = ap (λ (l : List ℕ). little_number 4 l) after_seal ∙ number_back head.records t6 fits.records in
      same_fields _ _ _ _ _ _ _ _ _ _ _ _ size blocks first sealed seal records

  pub head_back : head_in (laid byte head edits tail) ≡ head
  head_back = ap (λ (l : List ℕ). head_in l) spread ∙ head_there

  behind_head : drop 61 (laid byte head edits tail) ≡ t6
  behind_head = ap (λ (l : List ℕ). drop 61 l) spread ∙ sym (drop-drop 4 57 file) ∙ ap (λ (l : List ℕ). drop 4 l) after_seal

  module _ (count : head.records ≡ length edits) (blocks : Blocks head.size edits) (numbers : Numbers edits) where
    pub plan_back : records_of (laid byte head edits tail) ≡ edits
    plan_back =
        let whole = laid byte head edits tail in
        ap (λ (h : LogHead). records_in h.size h.records (drop 61 whole)) head_back ∙ ap (λ (n : ℕ). records_in head.size n (drop 61 whole)) count
        ∙ ap (λ (l : List ℕ). records_in head.size (length edits) l) behind_head ∙ records_back head.size edits tail blocks numbers

    long_enough : log_length head ≤ length (laid byte head edits tail)
    long_enough =
        subst (λ (l : List ℕ). log_length head ≤ length l) (sym spread)
        (subst (λ (n : ℕ). 61 + n * (4 + head.size) ≤ length file) (sym count)
        (omega (arith, length-append head.seal t5, fits.seal, length-append (flat_map record_bytes edits) tail, length_records head.size edits blocks)))

    pub grammar_back : is_head head ≡ true → are_lawful head 0 edits ≡ true → is_log (laid byte head edits tail) ≡ true
    unfolding is_log
    grammar_back lawful sectors =
        let whole = laid byte head edits tail in
        let enough : nat_le (log_length (head_in whole)) (length whole) ≡ true =
        subst (λ (h : LogHead). nat_le (log_length h) (length whole) ≡ true) (sym head_back) (le-leb (log_length head) (length whole) long_enough) in
        let stand : are_lawful (head_in whole) 0 (records_of whole) ≡ true =
        ap (λ (h : LogHead). are_lawful h 0 (records_of whole)) head_back ∙ ap (λ (q : List Edit). are_lawful head 0 q) plan_back ∙ sectors in
        and_from _ _ (ap (λ (h : LogHead). is_head h) head_back ∙ lawful) (and_from _ _ enough stand)

-- what holds of each record's sector makes the list lawful
pub lawful_from : (head : LogHead) (least : ℕ) (edits : List Edit) → ClimbsFrom least edits → All (λ edit. edit.0 < head.blocks) edits
    → All (λ edit. (edit.0 < head.first) ⊎ (head.first + head.sealed ≤ edit.0)) edits → are_lawful head least edits ≡ true
unfolding are_lawful may_stand
lawful_from head least [] ascends below apart = refl
lawful_from head least (edit ∷ edits) ascends below apart =
    let here : (nat_lt edit.0 head.first || nat_le (head.first + head.sealed) edit.0) ≡ true =
    ⊎_elim (λ lt. or_left _ _ (lt-ltb edit.0 head.first lt)) (λ le. or_right _ _ (le-leb (head.first + head.sealed) edit.0 le)) (first_is (IsApart head) edit edits apart) in
    and_from _ _ (and_from _ _ (le-leb least edit.0 ascends.0) (and_from _ _ (lt-ltb edit.0 head.blocks (first_is (IsBelow head) edit edits below)) here))
    (lawful_from head (edit.0 + 1) edits ascends.1 (rest_are (IsBelow head) edit edits below) (rest_are (IsApart head) edit edits apart))

-- a file that begins with a gate and the name, written over behind them
pub put_laid : (side : List ℕ) (head : LogHead) (edits : List Edit) → 9 ≤ length side → slice_of side 1 8 ≡ name
    → put side 9 (head_bytes head ++ flat_map record_bytes edits) ≡ laid (gate side) head edits (drop (9 + length (head_bytes head ++ flat_map record_bytes edits)) side)
put_laid [] head edits long named = absurd (omega arith)
put_laid (x ∷ side) head edits long named =
    let body = head_bytes head ++ flat_map record_bytes edits in
    let tail = drop (9 + length body) (x ∷ side) in
    ap (λ (l : List ℕ). x ∷ (l ++ (body ++ tail))) named ∙ ap (λ (l : List ℕ). x ∷ (name ++ l)) (append_assoc (head_bytes head) (flat_map record_bytes edits) tail)

pub laid_long : (byte : ℕ) (head : LogHead) (edits : List Edit) (tail : List ℕ) → 9 < length (laid byte head edits tail)
unfolding head_bytes
laid_long byte head edits tail = omega arith
