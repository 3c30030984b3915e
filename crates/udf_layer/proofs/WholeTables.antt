-- A table is whole by its front, and has its number and its entries there.
use Rattle.std.proofs.Common.{◌≡◌, ℕ, ◌+◌, ◌*◌, ◌≤◌, Bool, true, false, ◌&&◌, nat_le, cond, length, take, drop, arith, refl, sym, ap, ◌∙◌, Some, None, List}
use Rattle.std.specs.Prelude.{codes}
use Rattle.std.proofs.lemmas.List.{length-take, length-drop, take-take}
use Rattle.std.proofs.lemmas.Bool.{and_parts}
use Rattle.std.proofs.lemmas.Bool.Decides.{nat_tests}
use Rattle.udf_model.specs.Image.{block_of}
use Rattle.udf_model.specs.Tag.{crc_length, id_at, is_id}
use Rattle.udf_field.specs.FieldView.{entity_is}
use Rattle.udf_layer.specs.Fronts.{IsTableBytes, front_length, table_bytes, table_front}
use Rattle.udf_layer.specs.Tables.{area_bytes}
use Rattle.udf_layer.proofs.AreaFronts.{area_is, area_large, same_count, same_sequence, same_table}
use Rattle.udf_layer.proofs.TableBytes.{bytes_count, bytes_end}
use Rattle.udf_volume_model.specs.SparingTable.{entry_count, is_table, sequence_number, table_area, table_end, table_number}

le_true : (a b : ℕ) → nat_le a b ≡ true → a ≤ b
le_true a b h = grind (arith, nat_tests)

true_le : (a b : ℕ) → a ≤ b → nat_le a b ≡ true
true_le a b h = grind (arith, nat_tests)

entries_fit : (bytes at : ℕ) (area : List ℕ) → is_table bytes at area ≡ true → 56 + 8 * entry_count area ≤ bytes
unfolding is_table
entries_fit bytes at area h =
    let t = and_parts (is_id 0 (id_at at area)) (entity_is area 16 (codes "*UDF Sparing Table") && nat_le (56 + 8 * entry_count area) bytes) h in
    le_true (56 + 8 * entry_count area) bytes (and_parts (entity_is area 16 (codes "*UDF Sparing Table")) (nat_le (56 + 8 * entry_count area) bytes) t.1).1

module _ (bytes at : ℕ) (area front : List ℕ) (is : front ≡ table_front area) (room : bytes ≤ length area) where
  covers_head : 56 ≤ front_length area
  unfolding front_length
  covers_head = omega arith

  covers_tag : 16 + crc_length area ≤ front_length area
  unfolding front_length
  covers_tag = omega arith

  covers_entries : 56 + 8 * entry_count area ≤ front_length area
  unfolding front_length
  covers_entries = omega arith

  count_is : entry_count front ≡ entry_count area
  count_is = ap entry_count is ∙ same_count (front_length area) area covers_head

  table_is : is_table bytes at front ≡ is_table bytes at area
  table_is = ap (is_table bytes at) is ∙ same_table (front_length area) area covers_head covers_tag bytes at

  test : Bool
  test = is_table bytes at front && nat_le (56 + 8 * entry_count front) (length front)

  has_entries : is_table bytes at area ≡ true → nat_le (56 + 8 * entry_count front) (length front) ≡ true
  has_entries whole =
      true_le (56 + 8 * entry_count front) (length front)
      (omega (arith, count_is, ap (λ (l : List ℕ). length l) is, length-take (front_length area) area, covers_entries, entries_fit bytes at area whole))

  same_test : (b : Bool) → is_table bytes at area ≡ b → test ≡ b
  unfolding test
  same_test true whole =
      ap (λ t. t && nat_le (56 + 8 * entry_count front) (length front)) (table_is ∙ whole) ∙ has_entries whole
  same_test false off = ap (λ t. t && nat_le (56 + 8 * entry_count front) (length front)) (table_is ∙ off)

  pub is_read : (is_table bytes at front && nat_le (56 + 8 * entry_count front) (length front)) ≡ true
      → (table_number bytes at area ≡ Some (sequence_number front)) × (table_bytes front ≡ table_bytes area)
  unfolding test table_number
  is_read passes =
      let whole : is_table bytes at area ≡ true = sym (same_test (is_table bytes at area) refl) ∙ passes in (
        ap (λ b. cond b (Some (sequence_number area)) None) whole
            ∙ ap (λ (n : ℕ). Some n) (sym (ap sequence_number is ∙ same_sequence (front_length area) area covers_head)),
        ap (λ n. take n front) (ap (λ n. 56 + 8 * n) count_is) ∙ ap (take (table_end area)) is
            ∙ take-take (table_end area) (front_length area) area covers_entries,
      )

  pub not_read : (is_table bytes at front && nat_le (56 + 8 * entry_count front) (length front)) ≡ false → table_number bytes at area ≡ None
  unfolding test table_number
  not_read fails = ap (λ b. cond b (Some (sequence_number area)) None) (sym (same_test (is_table bytes at area) refl) ∙ fails)

-- the bytes of a table lie in its area, where that lies in the image
pub bytes_inside : (size bytes at : ℕ) (image : List ℕ) → 512 ≤ size → at * size + area_bytes size bytes ≤ length image → bytes ≤ length (table_area size (block_of size image) bytes at)
bytes_inside size bytes at image large inside =
    omega (arith, ap (λ (l : List ℕ). length l) (area_is size bytes at image), area_large size bytes large, length-take (area_bytes size bytes) (drop (at * size) image), length-drop (at * size) image)

-- what is cut from a front at which a whole table begins
pub is_of_table : (bytes at : ℕ) (front table : List ℕ) → (is_table bytes at front && nat_le (56 + 8 * entry_count front) (length front)) ≡ true
    → table ≡ table_bytes front → IsTableBytes bytes table
is_of_table bytes at front table passes cut =
    let t = and_parts (is_table bytes at front) (nat_le (56 + 8 * entry_count front) (length front)) passes in
    let room : 56 + 8 * entry_count front ≤ length front = le_true (56 + 8 * entry_count front) (length front) t.1 in
    let ends : length table ≡ table_end table = ap (λ (l : List ℕ). length l) cut ∙ bytes_end front room ∙ sym (ap table_end cut) in
    record {
      ends = ends;
      fits = omega (arith, ends, ap entry_count cut, bytes_count front, entries_fit bytes at front t.0);
      at = at;
      area = front;
      whole = t.0;
      front = cut;
    }
