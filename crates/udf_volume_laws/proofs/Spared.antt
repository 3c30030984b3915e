-- The sparing tables after the mends of a volume: its layout stays, a table prevails, and the rule holds.
use Rattle.std.proofs.Common.{◌≡◌, ℕ, ◌+◌, ◌<◌, ◌≤◌, arith, sym, ◌∙◌, ap, List, ◌++◌, true, Option, Some, inl}
use Rattle.std.specs.Prelude.{is_some}
use Rattle.std.specs.List.{flat_map}
use Rattle.udf_volume_model.specs.Anchor.{blocks_for}
use Rattle.udf_volume_model.specs.Kept.{KeptSequence, other}
use Rattle.udf_volume_model.specs.Stated.{sparing}
use Rattle.udf_volume_model.specs.Maps.{SparingMap}
use Rattle.udf_volume_model.specs.Areas.{Area, area_of, areas_of, partition_area, used_by, used_table, layout_of}
use Rattle.udf_volume_model.specs.Layout.{has_table, has_table_by}
use Rattle.udf_volume_model.specs.Edits.{look}
use Rattle.udf_volume_model.specs.SparingTable.{prevailing_area}
use Rattle.udf_volume_model.specs.SparingRule.{deviating, table_blocks, tables_agree, tables_hold, table_edits}
use Rattle.udf_volume_model.specs.AllRules.{layout_in}
use Rattle.udf_volume_model.specs.Mended.{sequence_edits, anchor_edits, edits}
use Rattle.udf_volume_laws.proofs.Members.{IsIn}
use Rattle.udf_volume_laws.proofs.Puts.{off, look_both}
use Rattle.udf_volume_laws.proofs.Apart.{covered, uncovered, uncovered_by, further_area, table_further}
use Rattle.udf_volume_laws.proofs.TablesAfter.{kept, same_used, all_agree}
use Rattle.udf_volume_laws.proofs.Taken.{IsOpened, Facts, facts}
use Rattle.udf_volume_laws.proofs.Spares.{Spares, Without, With, spares, table_area_in, with_edits}
use Rattle.udf_volume_laws.proofs.Beside.{sequence_off, anchors_off_edits}
use Rattle.udf_volume_laws.proofs.After.{after as after_of, whole, volume_after, not_eligible_in}

module _ (size blocks : ℕ) (disk : ℕ → List ℕ) (volume : KeptSequence) (given : IsOpened size blocks disk volume) where
  abbrev after : ℕ → List ℕ
  after n = after_of size blocks disk volume given n

  known : Facts size blocks disk volume
  known = facts size blocks disk volume given

  -- in the area of a table only the edits of tables stand
  pub table_put : (s : SparingMap) (table : List ℕ) → sparing volume.list ≡ Some s → prevailing_area size disk s ≡ Some table → (at : ℕ) → IsIn at s.tables
      → (n : ℕ) → at ≤ n → n < at + blocks_for size s.bytes → after n ≡ look n (flat_map (table_blocks size disk table) (deviating size disk s table)) (disk n)
  unfolding edits
  table_put s table is found at i n l h =
      let area : Area = record { start = at; count = blocks_for size s.bytes } in
      let c = covered area n l h in
      let listed = table_further size volume.list area (table_area_in size volume.list s at is i) in
      let last = table_edits size disk volume.list in
      look_both n (sequence_edits size disk volume) (anchor_edits blocks (layout_in size disk volume) disk volume ++ last) (disk n)
      ∙ off n (sequence_edits size disk volume) (look n (anchor_edits blocks (layout_in size disk volume) disk volume ++ last) (disk n))
      (sequence_off size disk volume n (whole size blocks disk volume given).below known.pairing.other_limit
      (uncovered (area_of size (other volume)) n (uncovered_by (area_of size (other volume)) area n (known.pairing.other_off area n listed) c)))
      ∙ look_both n (anchor_edits blocks (layout_in size disk volume) disk volume) last (disk n)
      ∙ off n (anchor_edits blocks (layout_in size disk volume) disk volume) (look n last (disk n))
      (anchors_off_edits size blocks disk volume n (inl (not_eligible_in size blocks disk volume given area n (further_area size volume.anchor volume.list area listed) c)))
      ∙ ap (λ edits. look n edits (disk n)) (with_edits size disk volume.list s table is found)

  tables : Spares size blocks disk volume.list
  tables = spares size blocks disk volume.anchor volume.list known.lawful known.table

  -- a table prevails
  pub table_stays : has_table size after volume.list ≡ true
  unfolding has_table
  table_stays = by_tables tables where
    by_tables : Spares size blocks disk volume.list → has_table_by size after (sparing volume.list) ≡ true
    by_tables (Without is) = ap (has_table_by size after) is
    by_tables (With s table is found listed) =
        ap (has_table_by size after) is
        ∙ ap (λ (o : Option (List ℕ)). is_some o) (kept size blocks disk after s table (omega (arith, given.large)) given.small given.full listed found (table_put s table is found)).found_next

  -- and is used as before
  pub used_stays : used_table size after volume.list ≡ used_table size disk volume.list
  unfolding used_table
  used_stays = by_tables tables where
    count : ℕ
    count = (partition_area volume.list).count

    by_tables : Spares size blocks disk volume.list → used_by size after count (sparing volume.list) ≡ used_by size disk count (sparing volume.list)
    by_tables (Without is) = ap (used_by size after count) is ∙ sym (ap (used_by size disk count) is)
    by_tables (With s table is found listed) =
        ap (used_by size after count) is
        ∙ same_used size blocks disk after s table (omega (arith, given.large)) given.small given.full listed found (table_put s table is found) count
        ∙ sym (ap (used_by size disk count) is)

  pub layout_stays : (place : ℕ) → layout_in size after (volume_after size blocks disk volume given place) ≡ layout_in size disk volume
  unfolding layout_of
  layout_stays place = ap (λ t. record { areas = areas_of size volume.anchor volume.list; table = t }) used_stays

  -- each table agrees
  pub tables_after : tables_hold size after volume.list ≡ true
  unfolding tables_hold
  tables_after = by_tables tables where
    by_tables : Spares size blocks disk volume.list → tables_agree size after (sparing volume.list) ≡ true
    by_tables (Without is) = ap (tables_agree size after) is
    by_tables (With s table is found listed) =
        ap (tables_agree size after) is
        ∙ all_agree size blocks disk after s table (omega (arith, given.large)) given.small given.full listed found (table_put s table is found)
