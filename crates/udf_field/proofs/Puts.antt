-- What each write of a field leaves.
use Rattle.std.proofs.Common.{◌≡◌, ℕ, suc, ◌+◌, ◌-◌, ◌%◌, ◌^◌, ◌<◌, ◌≤◌, arith, refl, ◌∙◌, ap, List, [], ◌∷◌, ◌++◌, length, take, drop, set, inl}
use Rattle.std.proofs.lemmas.List.{append-nil, drop-drop, drop_all, take_rest, set_split}
use borrow.Rule.Slice.PartMut.{put_mid}
use Rattle.byteorder.specs.Endian.{little_bytes}
use Rattle.udf_model.specs.Bytes.{number_at, with_number, written_at}
use Rattle.udf_model.proofs.Written.{number_is_written, number_length, number_back, number_stays, written_on}
use Rattle.udf_field.specs.FieldView.{kind_bits, length_bits, stored_length, span_at, short_at, address_at, long_at, span_bytes, short_bytes, long_bytes}
use Rattle.udf_field.specs.declared.address.Addr.{Addr}
use Rattle.udf_field.specs.declared.address.Span.{Span}
use Rattle.udf_field.specs.declared.address.Short.{Short}
use Rattle.udf_field.specs.declared.address.Long.{Long}

-- a number written to the front of what lies from the offset on
pub put_number : (n at value : ℕ) (area part : List ℕ) → at + n ≤ length area
    → part ≡ little_bytes n value ++ drop n (take (length area - at) (drop at area))
    → put_mid at (length area - at) area part ≡ with_number n at value area
unfolding with_number
put_number n at value area part room is =
    let rest : drop n (take (length area - at) (drop at area)) ≡ drop (at + n) area = ap (drop n) (take_rest area at) ∙ drop-drop n at area in
    let none : drop (length area - at) (drop at area) ≡ [] =
    drop-drop (length area - at) at area ∙ drop_all (at + (length area - at)) area (omega arith) in
    ap (λ xs. take at area ++ (part ++ xs)) none
    ∙ ap (λ xs. take at area ++ xs) (append-nil part ∙ is ∙ ap (λ xs. little_bytes n value ++ xs) rest)

pub put_byte : (at value : ℕ) (area : List ℕ) → at + 1 ≤ length area → value < 256 → set area at value ≡ with_number 1 at value area
unfolding with_number
put_byte at value area room small =
    set_split area at value (omega arith)
    ∙ ap (λ byte. take at area ++ (byte ∷ drop (suc at) area)) (let e : value ≡ value % 256 = omega arith in e)
    ∙ ap (λ k. take at area ++ (value % 256 ∷ drop k area)) (let e : suc at ≡ at + 1 = omega arith in e)

-- two numbers of four bytes, one after the other
two_written : (at x y : ℕ) (area mid last : List ℕ) → at + 8 ≤ length area → mid ≡ with_number 4 at x area → last ≡ with_number 4 (at + 4) y mid
    → last ≡ written_at at (little_bytes 4 x ++ little_bytes 4 y) area
two_written at x y area mid last room first second =
    second ∙ ap (with_number 4 (at + 4) y) (first ∙ number_is_written 4 at x area)
    ∙ number_is_written 4 (at + 4) y (written_at at (little_bytes 4 x) area)
    ∙ written_on at (at + 4) (little_bytes 4 x) (little_bytes 4 y) area refl (omega arith)

two_back : (at x y : ℕ) (area mid last : List ℕ) → at + 8 ≤ length area → x < 2 ^ 32 → y < 2 ^ 32 → mid ≡ with_number 4 at x area → last ≡ with_number 4 (at + 4) y mid
    → (number_at 4 last at ≡ x) × (number_at 4 last (at + 4) ≡ y)
two_back at x y area mid last room small low first second =
    let long : length mid ≡ length area = ap length first ∙ number_length 4 at x area (omega arith) in (
      ap (λ xs. number_at 4 xs at) second ∙ number_stays 4 (at + 4) y 4 at mid (omega arith) (inl (omega arith))
          ∙ ap (λ xs. number_at 4 xs at) first ∙ number_back 4 at x area (omega arith) small,
      ap (λ xs. number_at 4 xs (at + 4)) second ∙ number_back 4 (at + 4) y mid (omega arith) low,
    )

pub span_written : (at : ℕ) (value : Span) (area mid last : List ℕ) → at + 8 ≤ length area
    → mid ≡ with_number 4 at value.length area → last ≡ with_number 4 (at + 4) value.start mid → last ≡ written_at at (span_bytes value) area
unfolding span_bytes
span_written at value = two_written at value.length value.start

pub span_back : (at : ℕ) (value : Span) (area mid last : List ℕ) → at + 8 ≤ length area → value.length < 2 ^ 32 → value.start < 2 ^ 32
    → mid ≡ with_number 4 at value.length area → last ≡ with_number 4 (at + 4) value.start mid → span_at last at ≡ value
span_back at value area mid last room small low first second =
    let read = two_back at value.length value.start area mid last room small low first second in
    ap (λ n. let s : Span = record { length = n; start = number_at 4 last (at + 4) } in s) read.0
    ∙ ap (λ n. let s : Span = record { length = value.length; start = n } in s) read.1

stored_kind : (kind bytes stored : ℕ) → bytes < 2 ^ 30 → stored ≡ stored_length kind bytes → kind_bits stored ≡ kind
stored_kind kind bytes stored fits is = omega arith

stored_bytes : (kind bytes stored : ℕ) → bytes < 2 ^ 30 → stored ≡ stored_length kind bytes → length_bits stored ≡ bytes
stored_bytes kind bytes stored fits is = omega arith

pub short_written : (at stored : ℕ) (value : Short) (area mid last : List ℕ) → at + 8 ≤ length area → stored ≡ stored_length value.kind value.length
    → mid ≡ with_number 4 at stored area → last ≡ with_number 4 (at + 4) value.block mid → last ≡ written_at at (short_bytes value) area
unfolding short_bytes
short_written at stored value area mid last room is first second =
    two_written at stored value.block area mid last room first second
    ∙ ap (λ n. written_at at (little_bytes 4 n ++ little_bytes 4 value.block) area) is

pub short_back : (at stored : ℕ) (value : Short) (area mid last : List ℕ) → at + 8 ≤ length area → value.length < 2 ^ 30 → value.block < 2 ^ 32
    → stored < 2 ^ 32 → stored ≡ stored_length value.kind value.length
    → mid ≡ with_number 4 at stored area → last ≡ with_number 4 (at + 4) value.block mid → short_at last at ≡ value
short_back at stored value area mid last room fits low small is first second =
    let read = two_back at stored value.block area mid last room small low first second in
    ap (λ n. let s : Short = record { kind = kind_bits n; length = length_bits n; block = number_at 4 last (at + 4) } in s) read.0
    ∙ ap (λ n. let s : Short = record { kind = n; length = length_bits stored; block = number_at 4 last (at + 4) } in s) (stored_kind value.kind value.length stored fits is)
    ∙ ap (λ n. let s : Short = record { kind = value.kind; length = n; block = number_at 4 last (at + 4) } in s) (stored_bytes value.kind value.length stored fits is)
    ∙ ap (λ n. let s : Short = record { kind = value.kind; length = value.length; block = n } in s) read.1

pub long_written : (at stored : ℕ) (value : Long) (area mid next last : List ℕ) → at + 16 ≤ length area → stored ≡ stored_length value.kind value.length
    → mid ≡ with_number 4 at stored area → next ≡ with_number 4 (at + 4) value.at.block mid → last ≡ with_number 2 (at + 8) value.at.part next
    → last ≡ written_at at (long_bytes value) area
unfolding long_bytes
long_written at stored value area mid next last room is first second third =
    let front : List ℕ = little_bytes 4 (stored_length value.kind value.length) ++ little_bytes 4 value.at.block in
    let so_far : next ≡ written_at at front area =
    two_written at stored value.at.block area mid next (omega arith) first second
    ∙ ap (λ n. written_at at (little_bytes 4 n ++ little_bytes 4 value.at.block) area) is in
    third ∙ ap (with_number 2 (at + 8) value.at.part) so_far
    ∙ number_is_written 2 (at + 8) value.at.part (written_at at front area)
    ∙ written_on at (at + 8) front (little_bytes 2 value.at.part) area refl (omega arith)

pub long_back : (at stored : ℕ) (value : Long) (area mid next last : List ℕ) → at + 16 ≤ length area → value.length < 2 ^ 30 → value.at.block < 2 ^ 32 → value.at.part < 2 ^ 16
    → stored < 2 ^ 32 → stored ≡ stored_length value.kind value.length
    → mid ≡ with_number 4 at stored area → next ≡ with_number 4 (at + 4) value.at.block mid → last ≡ with_number 2 (at + 8) value.at.part next
    → long_at last at ≡ value
long_back at stored value area mid next last room fits low part small is first second third =
    let long : length mid ≡ length area = ap length first ∙ number_length 4 at stored area (omega arith) in
    let further : length next ≡ length mid = ap length second ∙ number_length 4 (at + 4) value.at.block mid (omega arith) in
    let read = two_back at stored value.at.block area mid next (omega arith) small low first second in
    let one : number_at 4 last at ≡ stored =
    ap (λ xs. number_at 4 xs at) third ∙ number_stays 2 (at + 8) value.at.part 4 at next (omega arith) (inl (omega arith)) ∙ read.0 in
    let two : number_at 4 last (at + 4) ≡ value.at.block =
    ap (λ xs. number_at 4 xs (at + 4)) third ∙ number_stays 2 (at + 8) value.at.part 4 (at + 4) next (omega arith) (inl (omega arith)) ∙ read.1 in
    let three : number_at 2 last (at + 4 + 4) ≡ value.at.part =
    ap (number_at 2 last) (let e : at + 4 + 4 ≡ at + 8 = omega arith in e)
    ∙ ap (λ xs. number_at 2 xs (at + 8)) third ∙ number_back 2 (at + 8) value.at.part next (omega arith) part in
    let where_to : address_at last (at + 4) ≡ value.at =
    ap (λ n. let a : Addr = record { part = number_at 2 last (at + 4 + 4); block = n } in a) two
    ∙ ap (λ n. let a : Addr = record { part = n; block = value.at.block } in a) three in
    ap (λ n. let s : Long = record { kind = kind_bits n; length = length_bits n; at = address_at last (at + 4) } in s) one
    ∙ ap (λ n. let s : Long = record { kind = n; length = length_bits stored; at = address_at last (at + 4) } in s) (stored_kind value.kind value.length stored fits is)
    ∙ ap (λ n. let s : Long = record { kind = value.kind; length = n; at = address_at last (at + 4) } in s) (stored_bytes value.kind value.length stored fits is)
    ∙ ap (λ a. let s : Long = record { kind = value.kind; length = value.length; at = a } in s) where_to
