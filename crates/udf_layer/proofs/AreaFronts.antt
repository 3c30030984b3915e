-- All that a sparing table says rests on the front of its area.
use Rattle.std.proofs.Common.{◌≡◌, ℕ, ◌+◌, ◌-◌, ◌*◌, ◌%◌, ◌<◌, ◌≤◌, ◌==◌, min, max, Bool, true, false, ◌&&◌, nat_le, cond, length, take, drop, arith, refl, sym, ap, ◌∙◌, Some, None, List, ◌∷◌, ◌++◌, ◌/◌, map, inl, inr, zero, suc}
use Rattle.std.specs.List.{range_with_len}
use Rattle.std.specs.Prelude.{codes, slice_index, sum}
use Rattle.std.specs.Str.{bytes_eq}
use Rattle.std.proofs.lemmas.Bool.Decides.{nat_tests}
use Rattle.udf_model.specs.Crc.{crc_of}
use Rattle.udf_field.specs.FieldView.{entity_is, entity_name, padded}
use Rattle.std.proofs.lemmas.List.{take_all, get_or-take, take-take, drop-take, drop-drop, length-take}
use Rattle.std.proofs.Math.Seq.{take-add}
use Rattle.std.proofs.Math.Nat.{mod-eq-sub-div-mul, mod-lt}
use Rattle.std.proofs.lemmas.Bool.{cases_lt}
use Rattle.udf_model.specs.Bytes.{number_at}
use Rattle.udf_model.specs.Image.{block_of}
use Rattle.udf_volume_model.specs.Anchor.{blocks_for}
use Rattle.udf_model.specs.Tag.{checksum_of, covered, crc_length, id_at, identifier, is_id, is_whole, location}
use Rattle.udf_model.proofs.Written.{same_number}
use Rattle.udf_layer.specs.Fronts.{front_length, table_front}
use Rattle.udf_layer.specs.Tables.{area_bytes}
use Rattle.udf_volume_model.specs.SparingTable.{bytes_from, entries, entry_at, entry_count, is_table, sequence_number, table_area}

-- the bytes of a table lie in its blocks
pub area_large : (size bytes : ℕ) → 512 ≤ size → bytes ≤ area_bytes size bytes
unfolding area_bytes
area_large size bytes h =
    let some : 0 < size = omega arith in
    let n : ℕ = bytes + (size - 1) in
    omega (arith, mod-lt n some, mod-eq-sub-div-mul n size)

front_number : (most n at : ℕ) (area : List ℕ) → at + n ≤ most → number_at n (take most area) at ≡ number_at n area at
front_number most n at area h = same_number n at (take most area) area (λ k l m. get_or-take most area k 0 (omega arith))

same_length : (most : ℕ) (area : List ℕ) → 56 ≤ most → front_length (take most area) ≡ front_length area
unfolding front_length
same_length most area h =
    ap (λ n. max (16 + n) (56 + 8 * entry_count (take most area))) (front_number most 2 10 area (omega arith))
    ∙ ap (λ n. max (16 + crc_length area) (56 + 8 * n)) (front_number most 2 48 area (omega arith))

-- the bytes of some blocks are those of the image
pub bytes_are : (size : ℕ) (image : List ℕ) (at blocks : ℕ) → bytes_from (block_of size image) at blocks ≡ take (blocks * size) (drop (at * size) image)
unfolding bytes_from block_of
bytes_are size image at zero = ap (λ n. take n (drop (at * size) image)) none
  where
    none : 0 ≡ 0 * size
    none = omega arith
bytes_are size image at (suc blocks) =
    ap (λ rest. take size (drop (at * size) image) ++ rest) (bytes_are size image (at + 1) blocks)
    ∙ ap (λ n. take size (drop (at * size) image) ++ take (blocks * size) (drop n image)) (next at size)
    ∙ ap (λ rest. take size (drop (at * size) image) ++ take (blocks * size) rest) (sym (drop-drop size (at * size) image))
    ∙ sym (take-add size (blocks * size) (drop (at * size) image))
    ∙ ap (λ n. take n (drop (at * size) image)) (more size blocks)
  where
    next : (at size : ℕ) → (at + 1) * size ≡ at * size + size
    next at size = omega arith

    more : (size blocks : ℕ) → size + blocks * size ≡ suc blocks * size
    more size blocks = omega arith

-- the area of a table is part of the image
pub area_is : (size bytes at : ℕ) (image : List ℕ) → table_area size (block_of size image) bytes at ≡ take (area_bytes size bytes) (drop (at * size) image)
unfolding table_area blocks_for area_bytes
area_is size bytes at image = bytes_are size image at ((bytes + (size - 1)) / size)

-- what is read is the front
pub is_front : (size bytes at start needed many : ℕ) (image front : List ℕ) → 512 ≤ size → 56 ≤ bytes → start ≡ at * size
    → needed ≡ front_length (take 56 (drop start image)) → many ≡ min (area_bytes size bytes) needed → front ≡ take many (drop start image)
    → front ≡ table_front (table_area size (block_of size image) bytes at)
is_front size bytes at start needed many image front large some e f g h =
    let room : 56 ≤ area_bytes size bytes = omega (arith, area_large size bytes large) in
    let area : List ℕ = take (area_bytes size bytes) (drop (at * size) image) in
    let same : needed ≡ front_length area =
    f ∙ ap (λ s. front_length (take 56 (drop s image))) e
    ∙ ap front_length (sym (take-take 56 (area_bytes size bytes) (drop (at * size) image) room))
    ∙ same_length 56 area (omega arith) in
    h ∙ ap (λ s. take many (drop s image)) e ∙ cut (area_bytes size bytes) needed many (drop (at * size) image) g ∙ ap (λ n. take n area) same
    ∙ ap table_front (sym (area_is size bytes at image))
  where
    cut : (room needed many : ℕ) (rest : List ℕ) → many ≡ min room needed → take many rest ≡ take needed (take room rest)
    cut room needed many rest g = elim (cases_lt needed room) [
      | inl less ↦ let is : many ≡ needed = omega arith in
          ap (λ n. take n rest) is ∙ sym (take-take needed room rest (omega arith))
      | inr more ↦ let is : many ≡ room = omega arith in
          ap (λ n. take n rest) is ∙ sym (take_all needed (take room rest) (omega (arith, length-take room rest)))
    ]

same_part : (most n at : ℕ) (area : List ℕ) → at + n ≤ most → take n (drop at (take most area)) ≡ take n (drop at area)
same_part most n at area h =
    let split : most ≡ at + (most - at) = omega arith in
    ap (λ m. take n (drop at (take m area))) split ∙ ap (take n) (drop-take at (most - at) area) ∙ take-take n (most - at) (drop at area) (omega arith)

le_min : (a most len : ℕ) → a ≤ most → nat_le a (min most len) ≡ nat_le a len
le_min a most len h = by (nat_le a (min most len)) (nat_le a len) refl refl
  where
    by : (b c : Bool) → nat_le a (min most len) ≡ b → nat_le a len ≡ c → b ≡ c
    by true true e f = refl
    by true false e f = absurd (grind (arith, nat_tests))
    by false true e f = absurd (grind (arith, nat_tests))
    by false false e f = refl

same_map : (f g : ℕ → ℕ × ℕ) (most a n : ℕ) → a + n ≤ most → ((i : ℕ) → i < most → f i ≡ g i) → map f (range_with_len a n) ≡ map g (range_with_len a n)
same_map f g most a zero room same = refl
same_map f g most a (suc n) room same =
    ap (λ p. p ∷ map f (range_with_len (a + 1) n)) (same a (omega arith)) ∙ ap (λ l. g a ∷ l) (same_map f g most (a + 1) n (omega arith) same)

-- the entries of a table by its head and their own bytes
module _ (most : ℕ) (area : List ℕ) (head : 56 ≤ most) where
  pub same_count : entry_count (take most area) ≡ entry_count area
  same_count = front_number most 2 48 area (omega arith)

  pub same_sequence : sequence_number (take most area) ≡ sequence_number area
  same_sequence = front_number most 4 52 area (omega arith)

  pub same_entries : 56 + 8 * entry_count area ≤ most → entries (take most area) ≡ entries area
  unfolding entries entry_at
  same_entries room =
      ap (λ n. map (entry_at (take most area)) (range_with_len 0 n)) same_count
      ∙ same_map (entry_at (take most area)) (entry_at area) (entry_count area) 0 (entry_count area) (omega arith)
      (λ i h. same_entry i (omega arith))
    where
      same_entry : (i : ℕ) → 64 + 8 * i ≤ most → entry_at (take most area) i ≡ entry_at area i
      same_entry i h =
          ap (λ n. (n, number_at 4 (take most area) (60 + 8 * i))) (front_number most 4 (56 + 8 * i) area (omega arith))
          ∙ ap (λ n. (number_at 4 area (56 + 8 * i), n)) (front_number most 4 (60 + 8 * i) area (omega arith))

-- a tag is whole by the bytes that its CRC covers
module _ (most : ℕ) (area : List ℕ) (head : 56 ≤ most) (covers : 16 + crc_length area ≤ most) where
  same_crc_length : crc_length (take most area) ≡ crc_length area
  same_crc_length = front_number most 2 10 area (omega arith)

  same_checksum : checksum_of (take most area) ≡ checksum_of area
  unfolding checksum_of
  same_checksum =
      ap (λ l. (sum l + sum (take 11 (drop 5 (take most area)))) % 256) (take-take 4 most area (omega arith))
      ∙ ap (λ l. (sum (take 4 area) + sum l) % 256) (same_part most 11 5 area (omega arith))

  same_covered : covered (take most area) ≡ covered area
  same_covered = ap (λ n. take n (drop 16 (take most area))) same_crc_length ∙ same_part most (crc_length area) 16 area covers

  same_room : nat_le (16 + crc_length (take most area)) (length (take most area)) ≡ nat_le (16 + crc_length area) (length area)
  same_room =
      ap (λ n. nat_le (16 + n) (length (take most area))) same_crc_length
      ∙ ap (nat_le (16 + crc_length area)) (length-take most area) ∙ le_min (16 + crc_length area) most (length area) covers

  same_whole : is_whole (take most area) ≡ is_whole area
  unfolding is_whole
  same_whole =
      ap (λ b. b && ((slice_index (take most area) 4 == checksum_of (take most area)) && (crc_of (covered (take most area)) == number_at 2 (take most area) 8))) same_room
      ∙ ap (λ n. nat_le (16 + crc_length area) (length area) && ((n == checksum_of (take most area)) && (crc_of (covered (take most area)) == number_at 2 (take most area) 8))) (get_or-take most area 4 0 (omega arith))
      ∙ ap (λ n. nat_le (16 + crc_length area) (length area) && ((slice_index area 4 == n) && (crc_of (covered (take most area)) == number_at 2 (take most area) 8))) same_checksum
      ∙ ap (λ l. nat_le (16 + crc_length area) (length area) && ((slice_index area 4 == checksum_of area) && (crc_of l == number_at 2 (take most area) 8))) same_covered
      ∙ ap (λ n. nat_le (16 + crc_length area) (length area) && ((slice_index area 4 == checksum_of area) && (crc_of (covered area) == n))) (front_number most 2 8 area (omega arith))

  same_id : (at : ℕ) → id_at at (take most area) ≡ id_at at area
  unfolding id_at
  same_id at =
      ap (λ b. cond (b && (location (take most area) == at)) (Some (identifier (take most area))) None) same_whole
      ∙ ap (λ n. cond (is_whole area && (n == at)) (Some (identifier (take most area))) None) (front_number most 4 12 area (omega arith))
      ∙ ap (λ n. cond (is_whole area && (location area == at)) (Some n) None) (front_number most 2 0 area (omega arith))

  same_name : (name : List ℕ) → entity_is (take most area) 16 name ≡ entity_is area 16 name
  unfolding entity_is entity_name
  same_name name = ap (λ l. bytes_eq l (padded 23 name)) (same_part most 23 17 area (omega arith))

  pub same_table : (bytes at : ℕ) → is_table bytes at (take most area) ≡ is_table bytes at area
  unfolding is_table
  same_table bytes at =
      ap (λ o. is_id 0 o && (entity_is (take most area) 16 (codes "*UDF Sparing Table") && nat_le (56 + 8 * entry_count (take most area)) bytes)) (same_id at)
      ∙ ap (λ b. is_id 0 (id_at at area) && (b && nat_le (56 + 8 * entry_count (take most area)) bytes)) (same_name (codes "*UDF Sparing Table"))
      ∙ ap (λ n. is_id 0 (id_at at area) && (entity_is area 16 (codes "*UDF Sparing Table") && nat_le (56 + 8 * n) bytes)) (same_count most area head)
