-- What stands in an area that a bitmap is written to.
use Rattle.std.proofs.Common.{refl, ◌≡◌, ℕ, ◌+◌, ◌-◌, ◌^◌, ◌<◌, ◌≤◌, arith, sym, ◌∙◌, ap, Bool, true, cond, eqb, ◌&&◌, Some, None, List, ◌++◌, length, take, drop, get_or, inl}
use Rattle.std.proofs.lemmas.Bool.{eq-eqb}
use Rattle.std.proofs.lemmas.List.{drop-drop, get_or-take, get_or-drop}
use borrow.Rule.Slice.PartMut.{put_mid}
use Rattle.udf_model.specs.Bytes.{number_at, with_number, written_at}
use Rattle.udf_model.specs.Crc.{crc_of}
use Rattle.udf_model.specs.Tag.{crc_length, id_at, identifier, is_id, retagged, whole_id, relocated, summed}
use Rattle.udf_model.proofs.Written.{written_length, written_from, written_rest, number_length, number_back, number_stays, number_rest, one_byte, same_number}
use Rattle.udf_model.proofs.Relocated.{by_sixteen}
use Rattle.udf_model.proofs.Retagged.{found_by_crc, retagged_body, retagged_covers, retagged_front, retagged_identifier, retagged_length, retagged_middle, whole_by_crc}
use Rattle.udf_space.specs.Bits.{bits_of, bytes_for, packed}
use Rattle.udf_space.specs.Area.{bitmap_in, encoded, has_counts, headed, is_bitmap}
use Rattle.udf_space.proofs.Packing.{packed_back, packed_length}

-- what is copied to the place of the bits
pub put_written : (m : ℕ) (area bytes : List ℕ) → length bytes ≡ m → put_mid 24 (24 + m - 24) area bytes ≡ written_at 24 bytes area
unfolding written_at
put_written m area bytes many =
    ap (λ n. take 24 area ++ (bytes ++ drop n (drop 24 area))) (let e : 24 + m - 24 ≡ length bytes = omega arith in e)
    ∙ ap (λ xs. take 24 area ++ (bytes ++ xs)) (drop-drop (length bytes) 24 area)

pub headed_length : (version serial blocks : ℕ) (area : List ℕ) → 24 ≤ length area → length (headed version serial blocks area) ≡ length area
unfolding headed
headed_length version serial blocks area room =
    let a = with_number 2 0 264 area in
    let b = with_number 2 2 version a in
    let c = with_number 1 5 0 b in
    let d = with_number 2 6 serial c in
    let e = with_number 4 16 blocks d in
    let la : length a ≡ length area = number_length 2 0 264 area (omega arith) in
    let lb : length b ≡ length a = number_length 2 2 version a (omega arith) in
    let lc : length c ≡ length b = number_length 1 5 0 b (omega arith) in
    let ld : length d ≡ length c = number_length 2 6 serial c (omega arith) in
    let le : length e ≡ length d = number_length 4 16 blocks d (omega arith) in
    number_length 4 20 (bytes_for blocks) e (omega arith) ∙ le ∙ ld ∙ lc ∙ lb ∙ la

-- the fields of a header
record Fields (version serial blocks : ℕ) (area head : List ℕ) : Type 0 where
  identifier : number_at 2 head 0 ≡ 264
  version_there : version < 2 ^ 16 → number_at 2 head 2 ≡ version
  reserved : number_at 1 head 5 ≡ 0
  serial_there : serial < 2 ^ 16 → number_at 2 head 6 ≡ serial
  bit_count : blocks < 2 ^ 32 → number_at 4 head 16 ≡ blocks
  byte_count : blocks < 2 ^ 32 → number_at 4 head 20 ≡ bytes_for blocks
  rest : drop 24 head ≡ drop 24 area

number_past : (n at value m : ℕ) (area : List ℕ) → at ≤ length area → at + n ≤ m → drop m (with_number n at value area) ≡ drop m area
number_past n at value m area room after =
    ap (λ k. drop k (with_number n at value area)) (let e : m ≡ at + n + (m - (at + n)) = omega arith in e)
    ∙ sym (drop-drop (m - (at + n)) (at + n) (with_number n at value area))
    ∙ ap (drop (m - (at + n))) (number_rest n at value area room)
    ∙ drop-drop (m - (at + n)) (at + n) area
    ∙ ap (λ k. drop k area) (let e : at + n + (m - (at + n)) ≡ m = omega arith in e)

fields_of : (version serial blocks : ℕ) (area : List ℕ) → 24 ≤ length area → Fields version serial blocks area (headed version serial blocks area)
unfolding headed
fields_of version serial blocks area room =
    let a = with_number 2 0 264 area in
    let b = with_number 2 2 version a in
    let c = with_number 1 5 0 b in
    let d = with_number 2 6 serial c in
    let e = with_number 4 16 blocks d in
    let n = bytes_for blocks in
    let la : length a ≡ length area = number_length 2 0 264 area (omega arith) in
    let lb : length b ≡ length a = number_length 2 2 version a (omega arith) in
    let lc : length c ≡ length b = number_length 1 5 0 b (omega arith) in
    let ld : length d ≡ length c = number_length 2 6 serial c (omega arith) in
    let le : length e ≡ length d = number_length 4 16 blocks d (omega arith) in
    record {
      identifier =
          number_stays 4 20 n 2 0 e (omega arith) (inl (omega arith)) ∙ number_stays 4 16 blocks 2 0 d (omega arith) (inl (omega arith))
          ∙ number_stays 2 6 serial 2 0 c (omega arith) (inl (omega arith)) ∙ number_stays 1 5 0 2 0 b (omega arith) (inl (omega arith))
          ∙ number_stays 2 2 version 2 0 a (omega arith) (inl (omega arith)) ∙ number_back 2 0 264 area (omega arith) (omega arith);
      version_there = λ fits.
          number_stays 4 20 n 2 2 e (omega arith) (inl (omega arith)) ∙ number_stays 4 16 blocks 2 2 d (omega arith) (inl (omega arith))
          ∙ number_stays 2 6 serial 2 2 c (omega arith) (inl (omega arith)) ∙ number_stays 1 5 0 2 2 b (omega arith) (inl (omega arith))
          ∙ number_back 2 2 version a (omega arith) (omega arith);
      reserved =
          number_stays 4 20 n 1 5 e (omega arith) (inl (omega arith)) ∙ number_stays 4 16 blocks 1 5 d (omega arith) (inl (omega arith))
          ∙ number_stays 2 6 serial 1 5 c (omega arith) (inl (omega arith)) ∙ number_back 1 5 0 b (omega arith) (omega arith);
      serial_there = λ fits.
          number_stays 4 20 n 2 6 e (omega arith) (inl (omega arith)) ∙ number_stays 4 16 blocks 2 6 d (omega arith) (inl (omega arith))
          ∙ number_back 2 6 serial c (omega arith) (omega arith);
      bit_count = λ fits. number_stays 4 20 n 4 16 e (omega arith) (inl (omega arith)) ∙ number_back 4 16 blocks d (omega arith) (omega arith);
      byte_count = λ fits. number_back 4 20 n e (omega arith) (omega arith);
      rest =
          number_past 4 20 n 24 e (omega arith) (omega arith) ∙ number_past 4 16 blocks 24 d (omega arith) (omega arith)
          ∙ number_past 2 6 serial 24 c (omega arith) (omega arith) ∙ number_past 1 5 0 24 b (omega arith) (omega arith)
          ∙ number_past 2 2 version 24 a (omega arith) (omega arith) ∙ number_past 2 0 264 24 area (omega arith) (omega arith);
    }

-- the area before its tag is made anew
abbrev before : ℕ → ℕ → List Bool → List ℕ → List ℕ
before version serial bits area = headed version serial (length bits) (written_at 24 (packed bits) area)

body_length : (bits : List Bool) (area : List ℕ) → 24 + bytes_for (length bits) ≤ length area → length (written_at 24 (packed bits) area) ≡ length area
body_length bits area room = written_length 24 (packed bits) area (omega (arith, packed_length bits))

before_length : (version serial : ℕ) (bits : List Bool) (area : List ℕ) → 24 + bytes_for (length bits) ≤ length area
    → length (before version serial bits area) ≡ length area
before_length version serial bits area room =
    headed_length version serial (length bits) (written_at 24 (packed bits) area) (omega (arith, body_length bits area room)) ∙ body_length bits area room

fields_before : (version serial : ℕ) (bits : List Bool) (area : List ℕ) → 24 + bytes_for (length bits) ≤ length area
    → Fields version serial (length bits) (written_at 24 (packed bits) area) (before version serial bits area)
fields_before version serial bits area room =
    fields_of version serial (length bits) (written_at 24 (packed bits) area) (omega (arith, body_length bits area room))

no_crc : (xs : List ℕ) → crc_of (take 0 xs) < 2 ^ 16
unfolding crc_of
no_crc xs = omega arith

pub encoded_length : (version serial location : ℕ) (bits : List Bool) (area : List ℕ) → 24 + bytes_for (length bits) ≤ length area
    → length (encoded version serial location bits area) ≡ length area
unfolding encoded
encoded_length version serial location bits area room =
    let long = before_length version serial bits area room in
    retagged_length location 0 (before version serial bits area) (omega (arith, long)) ∙ long

pub encoded_covers : (version serial location : ℕ) (bits : List Bool) (area : List ℕ) → 24 + bytes_for (length bits) ≤ length area
    → crc_length (encoded version serial location bits area) ≡ 0
unfolding encoded
encoded_covers version serial location bits area room =
    retagged_covers location 0 (before version serial bits area) (omega (arith, before_length version serial bits area room)) (omega arith)

pub encoded_placed : (version serial location : ℕ) (bits : List Bool) (area : List ℕ) → location < 2 ^ 32 → 24 + bytes_for (length bits) ≤ length area
    → id_at location (encoded version serial location bits area) ≡ Some 264
unfolding encoded
encoded_placed version serial location bits area place room =
    let head = before version serial bits area in
    found_by_crc location 0 head (omega (arith, before_length version serial bits area room)) (omega arith) place (no_crc (drop 16 head))
    ∙ ap Some (fields_before version serial bits area room).identifier

pub encoded_version : (version serial location : ℕ) (bits : List Bool) (area : List ℕ) → version < 2 ^ 16 → 24 + bytes_for (length bits) ≤ length area
    → number_at 2 (encoded version serial location bits area) 2 ≡ version
unfolding encoded
encoded_version version serial location bits area fits room =
    let head = before version serial bits area in
    let front = retagged_front location 0 head (omega (arith, before_length version serial bits area room)) in
    same_number 2 2 (retagged location 0 head) head (λ k l m. sym (get_or-take 4 (retagged location 0 head) k 0 (omega arith))
    ∙ ap (λ xs. get_or xs k 0) front ∙ get_or-take 4 head k 0 (omega arith))
    ∙ (fields_before version serial bits area room).version_there fits

middle_byte : (xs : List ℕ) (k : ℕ) → 5 ≤ k → k < 8 → get_or xs k 0 ≡ get_or (take 3 (drop 5 xs)) (k - 5) 0
middle_byte xs k low high =
    sym (get_or-take 3 (drop 5 xs) (k - 5) 0 (omega arith) ∙ get_or-drop 5 xs (k - 5) 0 ∙ ap (λ j. get_or xs j 0) (let e : 5 + (k - 5) ≡ k = omega arith in e))

pub encoded_serial : (version serial location : ℕ) (bits : List Bool) (area : List ℕ) → serial < 2 ^ 16 → 24 + bytes_for (length bits) ≤ length area
    → number_at 2 (encoded version serial location bits area) 6 ≡ serial
unfolding encoded
encoded_serial version serial location bits area fits room =
    let head = before version serial bits area in
    let middle = retagged_middle location 0 head (omega (arith, before_length version serial bits area room)) in
    same_number 2 6 (retagged location 0 head) head (λ k l m. middle_byte (retagged location 0 head) k (omega arith) (omega arith)
    ∙ ap (λ xs. get_or xs (k - 5) 0) middle ∙ sym (middle_byte head k (omega arith) (omega arith)))
    ∙ (fields_before version serial bits area room).serial_there fits

no_bytes_crc : (location : ℕ) (area : List ℕ) → 16 ≤ length area → number_at 2 (retagged location 0 area) 8 ≡ 0
unfolding retagged with_number relocated summed number_at crc_of
no_bytes_crc location = by_sixteen (λ area. number_at 2 (retagged location 0 area) 8 ≡ 0) (λ a b c d e f g h i j k l m n o p rest. refl)

pub encoded_crc : (version serial location : ℕ) (bits : List Bool) (area : List ℕ) → 24 + bytes_for (length bits) ≤ length area
    → number_at 2 (encoded version serial location bits area) 8 ≡ 0
unfolding encoded
encoded_crc version serial location bits area room =
    no_bytes_crc location (before version serial bits area) (omega (arith, before_length version serial bits area room))

pub encoded_reserved : (version serial location : ℕ) (bits : List Bool) (area : List ℕ) → 24 + bytes_for (length bits) ≤ length area
    → get_or (encoded version serial location bits area) 5 0 ≡ 0
unfolding encoded
encoded_reserved version serial location bits area room =
    let head = before version serial bits area in
    let middle = retagged_middle location 0 head (omega (arith, before_length version serial bits area room)) in
    middle_byte (retagged location 0 head) 5 (omega arith) (omega arith) ∙ ap (λ xs. get_or xs 0 0) middle
    ∙ sym (middle_byte head 5 (omega arith) (omega arith)) ∙ sym (one_byte head 5) ∙ (fields_before version serial bits area room).reserved

-- from the tag's end on a tag made anew changes nothing
after_tag : (location m : ℕ) (area : List ℕ) → 16 ≤ length area → drop (16 + m) (retagged location 0 area) ≡ drop (16 + m) area
after_tag location m area room =
    sym (drop-drop m 16 (retagged location 0 area)) ∙ ap (drop m) (retagged_body location 0 area room) ∙ drop-drop m 16 area

encoded_bits : (version serial location : ℕ) (bits : List Bool) (area : List ℕ) → 24 + bytes_for (length bits) ≤ length area
    → drop 24 (encoded version serial location bits area) ≡ packed bits ++ drop (24 + length (packed bits)) area
unfolding encoded
encoded_bits version serial location bits area room =
    after_tag location 8 (before version serial bits area) (omega (arith, before_length version serial bits area room))
    ∙ (fields_before version serial bits area room).rest ∙ written_from 24 (packed bits) area (omega arith)

pub encoded_rest : (version serial location : ℕ) (bits : List Bool) (area : List ℕ) → 24 + bytes_for (length bits) ≤ length area
    → drop (24 + bytes_for (length bits)) (encoded version serial location bits area) ≡ drop (24 + bytes_for (length bits)) area
unfolding encoded
encoded_rest version serial location bits area room =
    let m = bytes_for (length bits) in
    let head = before version serial bits area in
    let body = written_at 24 (packed bits) area in
    ap (λ k. drop k (retagged location 0 head)) (let e : 24 + m ≡ 16 + (8 + m) = omega arith in e)
    ∙ after_tag location (8 + m) head (omega (arith, before_length version serial bits area room))
    ∙ ap (λ k. drop k head) (let e : 16 + (8 + m) ≡ 24 + m = omega arith in e)
    ∙ sym (drop-drop m 24 head) ∙ ap (drop m) (fields_before version serial bits area room).rest ∙ drop-drop m 24 body
    ∙ written_rest 24 m (packed bits) area (packed_length bits) (omega arith)

encoded_whole : (version serial location : ℕ) (bits : List Bool) (area : List ℕ) → 24 + bytes_for (length bits) ≤ length area
    → whole_id (encoded version serial location bits area) ≡ Some 264
unfolding encoded whole_id
encoded_whole version serial location bits area room =
    let head = before version serial bits area in
    let long : 16 + 0 ≤ length head = omega (arith, before_length version serial bits area room) in
    ap (λ b. cond b (Some (identifier (retagged location 0 head))) None)
    (whole_by_crc location 0 head long (omega arith) (no_crc (drop 16 head)))
    ∙ ap Some (retagged_identifier location 0 head (omega arith) ∙ (fields_before version serial bits area room).identifier)

encoded_counts : (version serial location : ℕ) (bits : List Bool) (area : List ℕ) → length bits < 2 ^ 32 → 24 + bytes_for (length bits) ≤ length area
    → has_counts (length bits) (encoded version serial location bits area) ≡ true
unfolding encoded has_counts number_at
encoded_counts version serial location bits area fits room =
    let head = before version serial bits area in
    let long : 16 ≤ length head = omega (arith, before_length version serial bits area room) in
    let fields = fields_before version serial bits area room in
    let first : number_at 4 (retagged location 0 head) 16 ≡ length bits = at_16 (retagged location 0 head) head (retagged_body location 0 head long) ∙ fields.bit_count fits in
    let second : number_at 4 (retagged location 0 head) 20 ≡ bytes_for (length bits) = at_20 (retagged location 0 head) head (after_tag location 4 head long) ∙ fields.byte_count fits in
    ap (λ b. b && eqb (number_at 4 (retagged location 0 head) 20) (bytes_for (length bits))) (eq-eqb _ _ first) ∙ eq-eqb _ _ second where
      at_16 : (xs ys : List ℕ) → drop 16 xs ≡ drop 16 ys → number_at 4 xs 16 ≡ number_at 4 ys 16
      at_16 xs ys same = ap (λ zs. number_at 4 zs 0) same

      at_20 : (xs ys : List ℕ) → drop 20 xs ≡ drop 20 ys → number_at 4 xs 20 ≡ number_at 4 ys 20
      at_20 xs ys same = ap (λ zs. number_at 4 zs 0) same

pub encoded_back : (version serial location : ℕ) (bits : List Bool) (area : List ℕ) → length bits < 2 ^ 32 → 24 + bytes_for (length bits) ≤ length area
    → bitmap_in (length bits) (encoded version serial location bits area) ≡ Some bits
unfolding bitmap_in is_bitmap
encoded_back version serial location bits area fits room =
    let e = encoded version serial location bits area in
    ap (λ id. cond (is_id 264 id && has_counts (length bits) e) (Some (bits_of (length bits) (drop 24 e))) None) (encoded_whole version serial location bits area room)
    ∙ ap (λ b. cond b (Some (bits_of (length bits) (drop 24 e))) None) (encoded_counts version serial location bits area fits room)
    ∙ ap Some (ap (bits_of (length bits)) (encoded_bits version serial location bits area room) ∙ packed_back bits (drop (24 + length (packed bits)) area))
