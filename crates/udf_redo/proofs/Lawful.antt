-- What the grammar says of the records of an open log.
use Rattle.std.proofs.Common.{◌≡◌, ◌<◌, ◌≤◌, ◌⊎◌, inl, inr, ⊎_elim, ℕ, zero, suc, ◌+◌, ◌*◌, ◌/◌, ◌==◌, nat_le, nat_lt, true, List, [], ◌∷◌, length, drop, get_or, refl, sym, ◌∙◌, ap, subst, arith, Some, slice_get}
use Rattle.std.specs.List.{All}
use Rattle.std.specs.Str.{bytes_eq}
use Rattle.std.proofs.lemmas.List.{length-take, length-drop, drop-drop}
use Rattle.std.proofs.lemmas.Bool.{and_parts, or_cases, leb-true, ltb-true, eqb-true}
use Rattle.std.proofs.Math.Nat.{suc-mul, zero-mul, mul-le-mul_right, div-mul-le_self}
use Rattle.udf_model.specs.Bytes.{number_at}
use Rattle.udf_model.specs.Image.{blocks_in}
use Rattle.udf_outside.specs.Stops.{slice_of}
use Rattle.udf_volume_model.specs.Plans.{ClimbsFrom}
use Rattle.udf_redo.specs.Log.{Edit}
use Rattle.udf_redo.specs.declared.head.LogHead.{LogHead}
use Rattle.udf_redo.specs.Log.{head_in, records_in, records_of, is_head, may_stand, are_lawful, log_length, is_log, is_log_of, seal_of}
use Rattle.udf_redo.specs.Settled.{IsOpenLog}
use Rattle.udf_redo.proofs.States.{open_log_opens}

pub record Grammar (side : List ℕ) : Type 0 where
  pub head : is_head (head_in side) ≡ true
  pub enough : log_length (head_in side) ≤ length side
  pub sectors : are_lawful (head_in side) 0 (records_of side) ≡ true

pub grammar : (side : List ℕ) → is_log side ≡ true → Grammar side
unfolding is_log
grammar side test =
    let first = and_parts (is_head (head_in side)) _ test in
    let rest = and_parts (nat_le (log_length (head_in side)) (length side)) _ first.1 in
    record { head = first.0; enough = leb-true _ _ rest.0; sectors = rest.1 }

pub open_grammar : (side image : List ℕ) → IsOpenLog side image → Grammar side
open_grammar side image log = grammar side (open_log_opens side image log).lawful

abbrev pub IsBelow : LogHead → Edit → Type 0
IsBelow head edit = edit.0 < head.blocks

abbrev pub IsApart : LogHead → Edit → Type 0
IsApart head edit = (edit.0 < head.first) ⊎ (head.first + head.sealed ≤ edit.0)

abbrev pub IsBlock : ℕ → Edit → Type 0
IsBlock size edit = length edit.1 ≡ size

-- one block of this size that lies below this end
abbrev pub FitsIn : ℕ → ℕ → Edit → Type 0
FitsIn size end edit = (length edit.1 ≡ size) × (edit.0 * size + size ≤ end)

pub all_cons : (P : Edit → Type 0) (edit : Edit) (edits : List Edit) → P edit → All P edits → All P (edit ∷ edits)
all_cons P edit edits here rest zero d lt = here
all_cons P edit edits here rest (suc k) d lt = rest k d (omega arith)

pub first_is : (P : Edit → Type 0) (edit : Edit) (edits : List Edit) → All P (edit ∷ edits) → P edit
first_is P edit edits all = all 0 edit (omega arith)

pub rest_are : (P : Edit → Type 0) (edit : Edit) (edits : List Edit) → All P (edit ∷ edits) → All P edits
rest_are P edit edits all = λ k d lt. all (suc k) d (omega arith)

pub record MayStand (head : LogHead) (least sector : ℕ) : Type 0 where
  pub risen : least ≤ sector
  pub below : sector < head.blocks
  pub apart : (sector < head.first) ⊎ (head.first + head.sealed ≤ sector)

pub stands : (head : LogHead) (least sector : ℕ) → may_stand head least sector ≡ true → MayStand head least sector
unfolding may_stand
stands head least sector test =
    let first = and_parts (nat_le least sector) _ test in
    let rest = and_parts (nat_lt sector head.blocks) _ first.1 in
    record {
      risen = leb-true _ _ first.0;
      below = ltb-true _ _ rest.0;
      apart = ⊎_elim (λ lt. inl (ltb-true _ _ lt)) (λ le. inr (leb-true _ _ le)) (or_cases (nat_lt sector head.first) (nat_le (head.first + head.sealed) sector) rest.1);
    }

lawful_parts : (head : LogHead) (least : ℕ) (edit : Edit) (edits : List Edit) → are_lawful head least (edit ∷ edits) ≡ true → MayStand head least edit.0 × (are_lawful head (edit.0 + 1) edits ≡ true)
unfolding are_lawful
lawful_parts head least edit edits test =
    let parts = and_parts (may_stand head least edit.0) (are_lawful head (edit.0 + 1) edits) test in
    (stands head least edit.0 parts.0, parts.1)

pub ascends_of : (head : LogHead) (least : ℕ) (edits : List Edit) → are_lawful head least edits ≡ true → ClimbsFrom least edits
ascends_of head least [] test = tt
ascends_of head least (edit ∷ edits) test =
    let parts = lawful_parts head least edit edits test in (parts.0.risen, ascends_of head (edit.0 + 1) edits parts.1)

pub below_of : (head : LogHead) (least : ℕ) (edits : List Edit) → are_lawful head least edits ≡ true → All (IsBelow head) edits
below_of head least [] test = λ k d lt. absurd (omega arith)
below_of head least (edit ∷ edits) test =
    let parts = lawful_parts head least edit edits test in all_cons (IsBelow head) edit edits parts.0.below (below_of head (edit.0 + 1) edits parts.1)

pub apart_of : (head : LogHead) (least : ℕ) (edits : List Edit) → are_lawful head least edits ≡ true → All (IsApart head) edits
apart_of head least [] test = λ k d lt. absurd (omega arith)
apart_of head least (edit ∷ edits) test =
    let parts = lawful_parts head least edit edits test in all_cons (IsApart head) edit edits parts.0.apart (apart_of head (edit.0 + 1) edits parts.1)

pub blocks_of_records : (size n : ℕ) (bytes : List ℕ) → n * (4 + size) ≤ length bytes → All (IsBlock size) (records_in size n bytes)
unfolding records_in
blocks_of_records size zero bytes fits = λ k d lt. absurd (omega arith)
blocks_of_records size (suc n) bytes fits =
    let is = suc-mul n (4 + size) in
    let long : length (slice_of bytes 4 size) ≡ size = omega (arith, length-take size (drop 4 bytes), length-drop 4 bytes, is) in
    all_cons (IsBlock size) (number_at 4 bytes 0, slice_of bytes 4 size) (records_in size n (drop (4 + size) bytes)) long
    (blocks_of_records size n (drop (4 + size) bytes) (omega (arith, length-drop (4 + size) bytes, is)))

pub length-records : (size n : ℕ) (bytes : List ℕ) → length (records_in size n bytes) ≡ n
unfolding records_in
length-records size zero bytes = refl
length-records size (suc n) bytes = omega (arith, length-records size n (drop (4 + size) bytes))

-- a block below the block count lies in the image
pub block_inside : (size blocks sector end : ℕ) → sector < blocks → blocks * size ≤ end → sector * size + size ≤ end
block_inside size blocks sector end lt within =
    let less : suc sector * size ≤ blocks * size = mul-le-mul_right size lt in
    omega (arith, less, suc-mul sector size)

pub same_count : (head : LogHead) (image : List ℕ) → is_log_of head image ≡ true → length image / head.size ≡ head.blocks
unfolding is_log_of
same_count head image test = eqb-true _ _ (and_parts (blocks_in head.size image == head.blocks) (bytes_eq (seal_of head image) head.seal) test).0

-- the records of an open log of an image are blocks in it, ascend, and are not sealed
pub open_ascends : (side image : List ℕ) → IsOpenLog side image → ClimbsFrom 0 (records_of side)
open_ascends side image log = ascends_of (head_in side) 0 (records_of side) (open_grammar side image log).sectors

pub open_apart : (side image : List ℕ) → IsOpenLog side image → All (IsApart (head_in side)) (records_of side)
open_apart side image log = apart_of (head_in side) 0 (records_of side) (open_grammar side image log).sectors

pub open_fits : (side image : List ℕ) → IsOpenLog side image → All (FitsIn (head_in side).size (length image)) (records_of side)
open_fits side image log =
    let head = head_in side in
    let parts = open_grammar side image log in
    let enough : head.records * (4 + head.size) ≤ length (drop 61 side) = omega (arith, parts.enough, length-drop 61 side) in
    let within : head.blocks * head.size ≤ length image = subst (λ (n : ℕ). n * head.size ≤ length image) (same_count head image log.same_image) (div-mul-le_self (length image) head.size) in
    λ k d lt. (
      blocks_of_records head.size head.records (drop 61 side) enough k d lt,
      block_inside head.size head.blocks (get_or (records_of side) k d).0 (length image) (below_of head 0 (records_of side) parts.sectors k d lt) within,
    )

-- the record at a place
pub record_at : (size n : ℕ) (bytes : List ℕ) (k : ℕ) → k < n
    → slice_get (records_in size n bytes) k ≡ Some (number_at 4 (drop (k * (4 + size)) bytes) 0, slice_of (drop (k * (4 + size)) bytes) 4 size)
unfolding records_in number_at
record_at size zero bytes k lt = absurd (omega arith)
record_at size (suc n) bytes zero lt =
    ap (λ (l : List ℕ). let e : Edit = (number_at 4 l 0, slice_of l 4 size) in Some e) (ap (λ (i : ℕ). drop i bytes) (sym (zero-mul (4 + size))))
record_at size (suc n) bytes (suc k) lt =
    let place : (4 + size) + k * (4 + size) ≡ suc k * (4 + size) = omega (arith, suc-mul k (4 + size)) in
    let there : drop (k * (4 + size)) (drop (4 + size) bytes) ≡ drop (suc k * (4 + size)) bytes = drop-drop (k * (4 + size)) (4 + size) bytes ∙ ap (λ (i : ℕ). drop i bytes) place in
    record_at size n (drop (4 + size) bytes) k (omega arith) ∙ ap (λ (l : List ℕ). let e : Edit = (number_at 4 l 0, slice_of l 4 size) in Some e) there
