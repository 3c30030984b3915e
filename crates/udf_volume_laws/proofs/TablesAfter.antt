-- The listed sparing tables after their mend: the same table prevails in what it says, and over bytes each agrees with it.
use Rattle.std.proofs.Common.{◌≡◌, ℕ, ◌+◌, ◌^◌, ◌<◌, ◌≤◌, arith, refl, sym, ◌∙◌, ap, subst, List, [], ◌++◌, length, true, false, cond, not, ◌&&◌, leb, ltb, Some, inl, inr, ◌⊎◌}
use Rattle.std.specs.Prelude.{option_map}
use Rattle.std.specs.Str.{bytes_eq}
use Rattle.std.specs.List.{filter, flat_map}
use Rattle.std.proofs.lemmas.Bool.{and_parts, and_from, cases_Bool, leb-true, ltb-true}
use Rattle.udf_model.specs.Crc.{crc_of}
use Rattle.udf_model.specs.Tag.{is_whole}
use Rattle.udf_volume_model.specs.Anchor.{blocks_for}
use Rattle.udf_volume_model.specs.Maps.{SparingMap}
use Rattle.udf_volume_model.specs.Areas.{used_by, table_or_none}
use Rattle.udf_volume_model.specs.Edits.{look}
use Rattle.udf_volume_model.specs.SparingTable.{bytes_from, table_end, is_table, sequence_number, used_pairs, used_of, table_stated, prevailing_area}
use Rattle.udf_volume_model.specs.SparingRule.{table_content, agrees_with, is_coverable, is_empty, deviating, deviating_by, tables_agree, table_copy, table_blocks}
use Rattle.udf_volume_laws.proofs.Members.{IsIn, none_kept}
use Rattle.udf_volume_laws.proofs.Same.{bytes_same, same_bytes}
use Rattle.udf_volume_laws.proofs.TableContent.{same_sequence, same_end, same_entries}
use Rattle.udf_volume_laws.proofs.Cut.{fewer_blocks}
use Rattle.udf_volume_laws.proofs.TableCopy.{copy_whole, placed_content, placed_agrees}
use Rattle.udf_volume_laws.proofs.TableEdits.{AreListed, prevailing_long, new, written_bytes, written_area, unwritten_area, many}
use Rattle.udf_volume_laws.proofs.Prevailed.{IsWholeTable, whole_table, area_at, IsPrevailing, prevails, some_prevails, some_blocks, same_prevailing}
use Rattle.udf_volume_laws.proofs.Deviating.{IsDeviating, deviating_parts, deviates}

-- a listed table is written, or it stays since it agrees or no table can be covered
pub data Fate (size : ℕ) (disk after : ℕ → List ℕ) (s : SparingMap) (table : List ℕ) (at : ℕ) : Type 0 where
  Written : IsDeviating size disk s table at → (rest : List ℕ) → area_at size after s at ≡ table_copy at table ++ rest → Fate size disk after s table at
  Agreed : agrees_with s.bytes at (area_at size disk s at) table ≡ true → area_at size after s at ≡ area_at size disk s at → Fate size disk after s table at
  Uncovered : is_coverable table ≡ false → area_at size after s at ≡ area_at size disk s at → Fate size disk after s table at

module _ (size blocks : ℕ) (disk after : ℕ → List ℕ) (s : SparingMap) (table : List ℕ) (some : 0 < size) (small : blocks < 2 ^ 32)
    (full : (n : ℕ) → n < blocks → length (disk n) ≡ size) (listed : AreListed size blocks s) (found : prevailing_area size disk s ≡ Some table)
    (put : (at : ℕ) → IsIn at s.tables → (n : ℕ) → at ≤ n → n < at + blocks_for size s.bytes
    → after n ≡ look n (flat_map (table_blocks size disk table) (deviating size disk s table)) (disk n)) where
  pub prevailing : IsPrevailing size disk s table
  prevailing = prevails size disk s table found

  pub whole : IsWholeTable s.bytes prevailing.at table
  whole = whole_table s.bytes prevailing.at table prevailing.whole

  pub long : table_end table ≤ length table
  long = prevailing_long size disk s table some prevailing (λ n l h. full n (omega (arith, listed.inside prevailing.at prevailing.listed)))

  fits : (at : ℕ) → IsIn at s.tables → at < 2 ^ 32
  fits at i = omega (arith, listed.inside at i, some_blocks size disk s table prevailing)

  stays : (at : ℕ) → IsIn at s.tables → (IsDeviating size disk s table at → ⊥) → area_at size after s at ≡ area_at size disk s at
  stays at i not_one =
      unwritten_area size disk table some long (deviating size disk s table) after s at whole.ends
      (λ other j. let d = deviating_parts size disk s table other j in unlike other d (listed.apart at other i d.listed)) (put at i)
    where
      unlike : (other : ℕ) → IsDeviating size disk s table other → (other ≡ at) ⊎ ((other + blocks_for size s.bytes ≤ at) ⊎ (at + blocks_for size s.bytes ≤ other))
          → (other + blocks_for size s.bytes ≤ at) ⊎ (at + blocks_for size s.bytes ≤ other)
      unlike other d (inl e) = absurd (not_one (subst (λ (n : ℕ). IsDeviating size disk s table n) e d))
      unlike other d (inr a) = a

  pub written : (at : ℕ) → IsDeviating size disk s table at → bytes_from after at (many size disk table some long) ≡ new size disk table some long at
  written at d =
      written_bytes size disk table some long (deviating size disk s table) after s at (deviates size disk s table at d) whole.ends
      (λ n l h. full n (omega (arith, listed.inside at d.listed, fewer)))
      (λ other j. listed.apart at other d.listed (deviating_parts size disk s table other j).listed)
      (put at d.listed)
    where
      fewer : many size disk table some long ≤ blocks_for size s.bytes
      fewer = fewer_blocks size (table_end table) s.bytes some whole.ends

  pub fate : (at : ℕ) → IsIn at s.tables → Fate size disk after s table at
  fate at i = by_cover (cases_Bool (is_coverable table)) (cases_Bool (agrees_with s.bytes at (area_at size disk s at) table)) where
    by_cover : (is_coverable table ≡ true) ⊎ (is_coverable table ≡ false)
        → (agrees_with s.bytes at (area_at size disk s at) table ≡ true) ⊎ (agrees_with s.bytes at (area_at size disk s at) table ≡ false)
        → Fate size disk after s table at
    by_cover (inr c) a = Uncovered c (stays at i (λ d. let e : true ≡ false = sym d.coverable ∙ c in absurd (cc)))
    by_cover (inl c) (inl a) = Agreed a (stays at i (λ d. let e : true ≡ false = sym a ∙ d.disagrees in absurd (cc)))
    by_cover (inl c) (inr a) = let d : IsDeviating size disk s table at = record { listed = i; coverable = c; disagrees = a } in
        let w = written_area size disk table some long after s at whole.ends (written at d) in Written d w.0 w.1

  -- the prevailing table agrees with itself, and stays
  pub itself : area_at size after s prevailing.at ≡ table
  unfolding agrees_with
  itself = by_fate (fate prevailing.at prevailing.listed) where
    agrees : agrees_with s.bytes prevailing.at (area_at size disk s prevailing.at) table ≡ true
    agrees = ap (λ (l : List ℕ). agrees_with s.bytes prevailing.at l table) (sym prevailing.is) ∙ and_from _ _ prevailing.whole (bytes_same (table_content table))

    by_fate : Fate size disk after s table prevailing.at → area_at size after s prevailing.at ≡ table
    by_fate (Written d rest e) = let f : true ≡ false = sym agrees ∙ d.disagrees in absurd (cc)
    by_fate (Agreed a e) = e ∙ sym prevailing.is
    by_fate (Uncovered c e) = e ∙ sym prevailing.is

  -- no table has a higher number afterwards
  lower : (other : ℕ) → IsIn other s.tables → is_table s.bytes other (area_at size after s other) ≡ true
      → sequence_number (area_at size after s other) ≤ sequence_number table
  lower other i w = by_fate (fate other i) where
    as_before : area_at size after s other ≡ area_at size disk s other → sequence_number (area_at size after s other) ≤ sequence_number table
    as_before e =
        omega (arith, prevailing.highest other i (ap (is_table s.bytes other) (sym e) ∙ w), ap (λ (l : List ℕ). sequence_number l) e)

    by_fate : Fate size disk after s table other → sequence_number (area_at size after s other) ≤ sequence_number table
    by_fate (Written d rest e) =
        omega (arith, ap (λ (l : List ℕ). sequence_number l) e, same_sequence (table_copy other table ++ rest) table (placed_content other table long rest))
    by_fate (Agreed a e) = as_before e
    by_fate (Uncovered c e) = as_before e

  pub record IsKept : Type 0 where
    pub next : List ℕ
    pub found_next : prevailing_area size after s ≡ Some next
    pub content : table_content next ≡ table_content table

  agreed_content : (at : ℕ) (area : List ℕ) → agrees_with s.bytes at area table ≡ true → table_content area ≡ table_content table
  unfolding agrees_with
  agreed_content at area a = same_bytes _ _ (and_parts (is_table s.bytes at area) (bytes_eq (table_content area) (table_content table)) a).1

  -- where no table can be covered, all stay
  all_stay : is_coverable table ≡ false → (at : ℕ) → IsIn at s.tables → area_at size disk s at ≡ area_at size after s at
  all_stay c at i = by_fate (fate at i) where
    by_fate : Fate size disk after s table at → area_at size disk s at ≡ area_at size after s at
    by_fate (Written d rest e) = let f : true ≡ false = sym d.coverable ∙ c in absurd (cc)
    by_fate (Agreed a e) = sym e
    by_fate (Uncovered u e) = sym e

  -- the table that prevails afterwards says what the prevailing one said
  pub kept : IsKept
  kept = by_cover (cases_Bool (is_coverable table)) where
    there : (next : List ℕ) × (prevailing_area size after s ≡ Some next)
    there =
        some_prevails size after s prevailing.at prevailing.listed (ap (is_table s.bytes prevailing.at) itself ∙ prevailing.whole)
        (λ other i w. omega (arith, lower other i w, ap (λ (l : List ℕ). sequence_number l) itself))

    by_fate : (next : List ℕ) → is_coverable table ≡ true → (at : ℕ) → next ≡ area_at size after s at → Fate size disk after s table at → table_content next ≡ table_content table
    by_fate next c at is (Written d rest e) = ap table_content (is ∙ e) ∙ placed_content at table long rest
    by_fate next c at is (Agreed a e) = ap table_content (is ∙ e) ∙ agreed_content at (area_at size disk s at) a
    by_fate next c at is (Uncovered u e) = let f : true ≡ false = sym c ∙ u in absurd (cc)

    by_cover : (is_coverable table ≡ true) ⊎ (is_coverable table ≡ false) → IsKept
    by_cover (inl c) =
        let q = prevails size after s there.0 there.1 in
        record { next = there.0; found_next = there.1; content = by_fate there.0 c q.at q.is (fate q.at q.listed) }
    by_cover (inr c) = record { next = table; found_next = sym (same_prevailing size disk after s (all_stay c)) ∙ found; content = refl }

  -- so the table is used as before
  pub same_used : (count : ℕ) → used_by size after count (Some s) ≡ used_by size disk count (Some s)
  unfolding table_stated
  same_used count =
      ap (λ o. table_or_none (option_map (used_of s.packet count) o)) kept.found_next
      ∙ ap (λ l. record { packet = s.packet; pairs = used_pairs s.packet count l }) (same_entries kept.next table kept.content)
      ∙ sym (ap (λ o. table_or_none (option_map (used_of s.packet count) o)) found)

  -- each table agrees afterwards
  pub all_agree : tables_agree size after (Some s) ≡ true
  unfolding agrees_with deviating is_coverable
  all_agree =
      ap (λ o. is_empty (deviating_by size after s o)) kept.found_next ∙ ap is_empty (none_left (cases_Bool (is_coverable kept.next)))
    where
      uncovered : is_coverable kept.next ≡ is_coverable table
      uncovered =
          ap (λ n. leb n (16 + 65535) && ltb (crc_of (table_content kept.next)) 65536) (same_end kept.next table kept.content)
          ∙ ap (λ l. leb (table_end table) (16 + 65535) && ltb (crc_of l) 65536) kept.content

      copied : (at : ℕ) → is_coverable table ≡ true → is_whole (table_copy at table) ≡ true
      copied at c =
          let parts = and_parts (leb (table_end table) (16 + 65535)) (ltb (crc_of (table_content table)) 65536) c in
          copy_whole at table long (ltb-true _ _ parts.1) (leb-true _ _ parts.0) whole.tagged

      with_next : (at : ℕ) → agrees_with s.bytes at (area_at size after s at) table ≡ true → agrees_with s.bytes at (area_at size after s at) kept.next ≡ true
      with_next at a = ap (λ l. is_table s.bytes at (area_at size after s at) && bytes_eq (table_content (area_at size after s at)) l) kept.content ∙ a

      by_fate : (at : ℕ) → IsIn at s.tables → is_coverable kept.next ≡ true → Fate size disk after s table at → agrees_with s.bytes at (area_at size after s at) table ≡ true
      by_fate at i c (Written d rest e) =
          ap (λ l. agrees_with s.bytes at l table) e
          ∙ placed_agrees at table long rest s.bytes prevailing.at whole (fits at i) (copied at d.coverable)
      by_fate at i c (Agreed a e) = ap (λ l. agrees_with s.bytes at l table) e ∙ a
      by_fate at i c (Uncovered u e) = let f : true ≡ false = sym c ∙ uncovered ∙ u in absurd (cc)

      none_left : (is_coverable kept.next ≡ true) ⊎ (is_coverable kept.next ≡ false) → deviating size after s kept.next ≡ []
      none_left (inr c) = ap (λ b. cond b (filter (λ at. not (agrees_with s.bytes at (area_at size after s at) kept.next)) s.tables) []) c
      none_left (inl c) =
          ap (λ b. cond b (filter (λ at. not (agrees_with s.bytes at (area_at size after s at) kept.next)) s.tables) []) c
          ∙ none_kept (λ at. agrees_with s.bytes at (area_at size after s at) kept.next) s.tables (λ at i. with_next at (by_fate at i c (fate at i)))
