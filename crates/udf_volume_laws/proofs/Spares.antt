-- The sparing tables of an opened volume, and the sectors that their edits leave.
use Rattle.std.proofs.Common.{◌≡◌, ℕ, ◌+◌, ◌*◌, ◌<◌, ◌≤◌, arith, refl, sym, ◌∙◌, ap, subst, List, [], length, true, ◌&&◌, ltb, Option, Some, None, inl, inr, ◌⊎◌}
use Rattle.std.specs.Prelude.{is_some}
use Rattle.std.specs.List.{list_all, flat_map}
use Rattle.std.proofs.lemmas.Bool.{and_parts, leb-true, ltb-true}
use Rattle.udf_volume_model.specs.Sequence.{Descriptor}
use Rattle.udf_volume_model.specs.Anchor.{Anchor, blocks_for}
use Rattle.udf_volume_model.specs.Stated.{sparing}
use Rattle.udf_volume_model.specs.Maps.{SparingMap}
use Rattle.udf_volume_model.specs.Areas.{Area, areas_of, partition_area, table_areas}
use Rattle.udf_volume_model.specs.Layout.{are_apart, is_inside, are_high, is_bitmap_lawful, are_lawful, has_table, has_table_by}
use Rattle.udf_volume_model.specs.SparingTable.{table_end, prevailing_area}
use Rattle.udf_volume_model.specs.SparingRule.{deviating, table_blocks, copies_by, copies_of, table_edits}
use Rattle.udf_volume_laws.proofs.Members.{IsIn, all_at, mapped_in}
use Rattle.udf_volume_laws.proofs.Puts.{IsOff, AreWithin}
use Rattle.udf_volume_laws.proofs.Apart.{IsBeside, spread, table_further, further_area}
use Rattle.udf_volume_laws.proofs.Cut.{fewer_blocks}
use Rattle.udf_volume_laws.proofs.Prevailed.{IsPrevailing, prevails, whole_table, some_blocks}
use Rattle.udf_volume_laws.proofs.Deviating.{deviating_parts, table_areas_are, tables_apart}
use Rattle.udf_volume_laws.proofs.TableEdits.{AreListed, prevailing_long, many, edits_off, edits_within}

-- a volume lists no sparing table, or some, of which one prevails
pub data Spares (size blocks : ℕ) (disk : ℕ → List ℕ) (list : List Descriptor) : Type 0 where
  Without : sparing list ≡ None → Spares size blocks disk list
  With : (s : SparingMap) (table : List ℕ) → sparing list ≡ Some s → prevailing_area size disk s ≡ Some table → AreListed size blocks s → Spares size blocks disk list

pub table_area_in : (size : ℕ) (list : List Descriptor) (s : SparingMap) (at : ℕ) → sparing list ≡ Some s → IsIn at s.tables
    → IsIn (record { start = at; count = blocks_for size s.bytes }) (table_areas size list)
table_area_in size list s at is i =
    subst (λ (areas : List Area). IsIn (record { start = at; count = blocks_for size s.bytes }) areas) (sym (table_areas_are size list s is))
    (mapped_in (λ (n : ℕ). record { start = n; count = blocks_for size s.bytes }) s.tables at i)

pub all_inside : (size blocks : ℕ) (anchor : Anchor) (list : List Descriptor) → are_lawful size blocks list (areas_of size anchor list) ≡ true
    → (area : Area) → IsIn area (areas_of size anchor list) → area.start + area.count ≤ blocks
unfolding are_lawful is_inside
all_inside size blocks anchor list e area i =
    leb-true _ _ (all_at (is_inside blocks) (areas_of size anchor list) area
    (and_parts (list_all (is_inside blocks) (areas_of size anchor list)) (are_apart (areas_of size anchor list) && (are_high size list && is_bitmap_lawful size list)) e).0 i)

-- the tables start above block 128
pub tables_high : (size blocks : ℕ) (anchor : Anchor) (list : List Descriptor) → are_lawful size blocks list (areas_of size anchor list) ≡ true
    → (area : Area) → IsIn area (table_areas size list) → 128 < area.start
unfolding are_lawful are_high
tables_high size blocks anchor list e area i =
    let one = and_parts (list_all (is_inside blocks) (areas_of size anchor list)) (are_apart (areas_of size anchor list) && (are_high size list && is_bitmap_lawful size list)) e in
    let two = and_parts (are_apart (areas_of size anchor list)) (are_high size list && is_bitmap_lawful size list) one.1 in
    let three = and_parts (are_high size list) (is_bitmap_lawful size list) two.1 in
    let four = and_parts (ltb 128 (partition_area list).start) (list_all (λ a. ltb 128 a.start) (table_areas size list)) three.0 in
    ltb-true _ _ (all_at (λ a. ltb 128 a.start) (table_areas size list) area four.1 i)

pub spares : (size blocks : ℕ) (disk : ℕ → List ℕ) (anchor : Anchor) (list : List Descriptor) → are_lawful size blocks list (areas_of size anchor list) ≡ true
    → has_table size disk list ≡ true → Spares size blocks disk list
unfolding has_table
spares size blocks disk anchor list lawful has = by_sparing (sparing list) refl has where
  listed : (s : SparingMap) (table : List ℕ) → sparing list ≡ Some s → prevailing_area size disk s ≡ Some table → AreListed size blocks s
  listed s table is e = record {
    inside = λ at i. all_inside size blocks anchor list lawful (record { start = at; count = blocks_for size s.bytes })
        (further_area size anchor list _ (table_further size list _ (table_area_in size list s at is i)));
    apart = tables_apart (blocks_for size s.bytes) s.tables (some_blocks size disk s table (prevails size disk s table e))
        (ap are_apart (sym (table_areas_are size list s is)) ∙ (spread size blocks anchor list lawful).tables);
  }

  by_table : (s : SparingMap) (o : Option (List ℕ)) → sparing list ≡ Some s → prevailing_area size disk s ≡ o → is_some o ≡ true → Spares size blocks disk list
  by_table s None is e t = absurd (cc)
  by_table s (Some table) is e t = With s table is e (listed s table is e)

  by_sparing : (o : Option SparingMap) → sparing list ≡ o → has_table_by size disk o ≡ true → Spares size blocks disk list
  by_sparing None is t = Without is
  by_sparing (Some s) is t = by_table s (prevailing_area size disk s) is refl t

pub without_edits : (size : ℕ) (disk : ℕ → List ℕ) (list : List Descriptor) → sparing list ≡ None → table_edits size disk list ≡ []
unfolding table_edits
without_edits size disk list is = ap (copies_of size disk) is

pub with_edits : (size : ℕ) (disk : ℕ → List ℕ) (list : List Descriptor) (s : SparingMap) (table : List ℕ) → sparing list ≡ Some s → prevailing_area size disk s ≡ Some table
    → table_edits size disk list ≡ flat_map (table_blocks size disk table) (deviating size disk s table)
unfolding table_edits
with_edits size disk list s table is e = ap (copies_of size disk) is ∙ ap (copies_by size disk s) e

module _ (size blocks : ℕ) (disk : ℕ → List ℕ) (list : List Descriptor) (some : 0 < size) (full : (n : ℕ) → n < blocks → length (disk n) ≡ size) where
  long : (s : SparingMap) (table : List ℕ) → AreListed size blocks s → IsPrevailing size disk s table
      → table_end table ≤ length table
  long s table listed p = prevailing_long size disk s table some p (λ n l h. full n (omega (arith, listed.inside p.at p.listed)))

  fewer : (s : SparingMap) (table : List ℕ) (listed : AreListed size blocks s) (p : IsPrevailing size disk s table)
      → many size disk table some (long s table listed p) ≤ blocks_for size s.bytes
  fewer s table listed p = fewer_blocks size _ s.bytes some (whole_table s.bytes p.at table p.whole).ends

  -- a sector beside the areas of the tables
  pub tables_off : Spares size blocks disk list → (n : ℕ) → ((area : Area) → IsIn area (table_areas size list) → IsBeside n area) → IsOff n (table_edits size disk list)
  tables_off (Without is) n h = subst (IsOff n) (sym (without_edits size disk list is)) tt
  tables_off (With s table is e listed) n h =
      let p = prevails size disk s table e in
      subst (IsOff n) (sym (with_edits size disk list s table is e))
      (edits_off size disk table some (long s table listed p) (deviating size disk s table) n
      (λ at i. closer at (fewer s table listed p) (h (record { start = at; count = blocks_for size s.bytes })
      (table_area_in size list s at is (deviating_parts size disk s table at i).listed))))
    where
      closer : (at : ℕ) {few most : ℕ} → few ≤ most → (n < at) ⊎ (at + most ≤ n) → (n < at) ⊎ (at + few ≤ n)
      closer at le (inl l) = inl l
      closer at le (inr l) = inr (omega arith)

  -- the edits lie in an image of so many bytes
  pub tables_within : (whole : ℕ) → ((n : ℕ) → n < blocks → n * size + size ≤ whole) → Spares size blocks disk list → AreWithin size whole (table_edits size disk list)
  tables_within whole room (Without is) = subst (AreWithin size whole) (sym (without_edits size disk list is)) tt
  tables_within whole room (With s table is e listed) =
      let p = prevails size disk s table e in
      let less = fewer s table listed p in
      subst (AreWithin size whole) (sym (with_edits size disk list s table is e))
      (edits_within size disk table some (long s table listed p) whole (deviating size disk s table)
      (λ at i n l h. full n (omega (arith, less, listed.inside at (deviating_parts size disk s table at i).listed)))
      (λ at i n h. room n (omega (arith, less, listed.inside at (deviating_parts size disk s table at i).listed))))
