-- A copy of a sparing table says at its sector what the table says, whatever stands behind it.
use Rattle.std.proofs.Common.{◌≡◌, ℕ, ◌+◌, ◌-◌, ◌*◌, ◌^◌, ◌<◌, ◌≤◌, arith, refl, sym, ◌∙◌, ap, List, ◌++◌, take, drop, get_or, length, Bool, true, false, cond, leb, Some, codes}
use Rattle.std.specs.Str.{bytes_eq}
use Rattle.std.proofs.lemmas.Bool.{and_from, leb-true, le-leb}
use Rattle.std.proofs.lemmas.List.{get_or-take, get_or-drop, get_or_append_left, take_at, take_all, length-take-le, length-drop, length-append}
use Rattle.udf_model.specs.Crc.{crc_of}
use Rattle.udf_model.specs.Tag.{is_whole, crc_length, identifier, location, id_at, is_id, relocated, retagged}
use Rattle.udf_model.proofs.Written.{same_number}
use Rattle.udf_model.proofs.Relocated.{relocated_length, relocated_body, relocated_identifier, relocated_location, relocated_whole, found_at}
use Rattle.udf_model.proofs.Retagged.{retagged_length, retagged_body, retagged_identifier, retagged_location, whole_by_crc}
use Rattle.udf_volume_model.specs.SparingTable.{table_end, is_table}
use Rattle.udf_volume_model.specs.SparingRule.{table_content, agrees_with, table_copy}
use Rattle.udf_volume_laws.proofs.Same.{bytes_same}
use Rattle.udf_volume_laws.proofs.TableContent.{same_end, same_name}
use Rattle.udf_volume_laws.proofs.Fronts.{front_location, front_identifier, front_whole, whole_front}
use Rattle.udf_volume_laws.proofs.Prevailed.{IsWholeTable}

-- what holds of both forms of a copy holds of it
by_form : (P : List ℕ → Type 0) (at : ℕ) (table : List ℕ)
    → (leb (16 + crc_length table) (table_end table) ≡ true → P (relocated at (take (table_end table) table)))
    → (leb (16 + crc_length table) (table_end table) ≡ false → P (retagged at (table_end table - 16) (take (table_end table) table)))
    → P (table_copy at table)
unfolding table_copy
by_form P at table f g = by_test (leb (16 + crc_length table) (table_end table)) refl where
  by_test : (b : Bool) → leb (16 + crc_length table) (table_end table) ≡ b
      → P (cond b (relocated at (take (table_end table) table)) (retagged at (table_end table - 16) (take (table_end table) table)))
  by_test true e = f e
  by_test false e = g e

module _ (at : ℕ) (table : List ℕ) (long : table_end table ≤ length table) where
  abbrev front : List ℕ
  front = take (table_end table) table

  front_length : length front ≡ table_end table
  front_length = length-take-le (table_end table) table long

  room : 16 ≤ length front
  room = omega (arith, front_length)

  pub copy_length : length (table_copy at table) ≡ table_end table
  copy_length = by_form (λ c. length c ≡ table_end table) at table
      (λ e. relocated_length at front room ∙ front_length) (λ e. retagged_length at (table_end table - 16) front room ∙ front_length)

  copy_body : drop 16 (table_copy at table) ≡ table_content table
  unfolding table_content
  copy_body = by_form (λ c. drop 16 c ≡ drop 16 front) at table (λ e. relocated_body at front room) (λ e. retagged_body at (table_end table - 16) front room)

  copy_identifier : identifier (table_copy at table) ≡ identifier table
  copy_identifier = by_form (λ c. identifier c ≡ identifier table) at table
      (λ e. relocated_identifier at front room ∙ front_identifier (table_end table) table (omega arith))
      (λ e. retagged_identifier at (table_end table - 16) front room ∙ front_identifier (table_end table) table (omega arith))

  copy_location : at < 2 ^ 32 → location (table_copy at table) ≡ at
  copy_location fits = by_form (λ c. location c ≡ at) at table (λ e. relocated_location at front room fits) (λ e. retagged_location at (table_end table - 16) front room fits)

  -- it is whole where the CRC of what the table says fits its field
  pub copy_whole : crc_of (table_content table) < 2 ^ 16 → table_end table ≤ 16 + 65535 → is_whole table ≡ true → is_whole (table_copy at table) ≡ true
  unfolding table_content
  copy_whole small covers whole =
      let all : take (table_end table - 16) (drop 16 front) ≡ drop 16 front =
      take_all (table_end table - 16) (drop 16 front) (omega (arith, front_length, length-drop 16 front)) in
      by_form (λ c. is_whole c ≡ true) at table
      (λ e. relocated_whole at front room (front_whole (table_end table) table (omega arith) long (leb-true _ _ e) whole))
      (λ e. whole_by_crc at (table_end table - 16) front (omega (arith, front_length)) (omega arith) (omega (arith, ap crc_of all)))

  module _ (rest : List ℕ) where
    abbrev placed : List ℕ
    placed = table_copy at table ++ rest

    placed_front : take (table_end table) placed ≡ table_copy at table
    placed_front = take_at (table_copy at table) rest (table_end table) copy_length

    placed_long : table_end table ≤ length placed
    placed_long = omega (arith, copy_length, length-append (table_copy at table) rest)

    placed_byte : (k : ℕ) → 16 ≤ k → k < table_end table → get_or placed k 0 ≡ get_or table k 0
    unfolding table_content
    placed_byte k low high =
        let is : 16 + (k - 16) ≡ k = omega arith in
        get_or_append_left (table_copy at table) rest 0 k (omega (arith, copy_length))
        ∙ ap (λ n. get_or (table_copy at table) n 0) (sym is)
        ∙ sym (get_or-drop 16 (table_copy at table) (k - 16) 0)
        ∙ ap (λ l. get_or l (k - 16) 0) copy_body
        ∙ get_or-drop 16 front (k - 16) 0
        ∙ ap (λ n. get_or front n 0) is
        ∙ get_or-take (table_end table) table k 0 high

    placed_end : table_end placed ≡ table_end table
    placed_end = ap (λ n. 56 + 8 * n) (same_number 2 48 placed table (λ k l h. placed_byte k (omega arith) (omega arith)))

    -- it says what the table says
    pub placed_content : table_content placed ≡ table_content table
    unfolding table_content
    placed_content = ap (λ n. drop 16 (take n placed)) placed_end ∙ ap (λ l. drop 16 l) placed_front ∙ copy_body

    placed_id : at < 2 ^ 32 → identifier table ≡ 0 → is_whole (table_copy at table) ≡ true → id_at at placed ≡ Some 0
    placed_id fits kind whole =
        found_at at 0 placed
        (whole_front (table_end table) placed (omega arith) placed_long (ap is_whole placed_front ∙ whole))
        (sym (front_location (table_end table) placed (omega arith)) ∙ ap (λ (l : List ℕ). location l) placed_front ∙ copy_location fits)
        (sym (front_identifier (table_end table) placed (omega arith)) ∙ ap (λ (l : List ℕ). identifier l) placed_front ∙ copy_identifier ∙ kind)

    -- where the copy is whole, it agrees with the table
    pub placed_agrees : (bytes from : ℕ) → IsWholeTable bytes from table → at < 2 ^ 32 → is_whole (table_copy at table) ≡ true → agrees_with bytes at placed table ≡ true
    unfolding agrees_with is_table
    placed_agrees bytes from w fits whole =
        and_from _ _
        (and_from _ _ (ap (is_id 0) (placed_id fits w.kind whole))
        (and_from _ _ (same_name placed table (codes "*UDF Sparing Table") placed_content ∙ w.named) (le-leb _ _ (omega (arith, same_end placed table placed_content, w.ends)))))
        (ap (λ l. bytes_eq l (table_content table)) placed_content ∙ bytes_same (table_content table))
