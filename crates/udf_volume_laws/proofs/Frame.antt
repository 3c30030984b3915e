-- The volume is read from its two extents, its sparing tables and the places outside what it takes alone.
use Rattle.std.proofs.Common.{◌≡◌, ℕ, ◌+◌, ◌<◌, ◌≤◌, refl, sym, ◌∙◌, ap, List, [], ◌∷◌, length, true, cond, not, ◌||◌, leb, eqb, Option, Some, None, inl, inr, ◌⊎◌}
use Rattle.std.proofs.lemmas.Bool.{and_parts, and_from, ne_eqb, eq-eqb, cases_eq}
use Rattle.std.specs.Prelude.{is_none, is_some, option_map}
use Rattle.std.specs.List.{list_all, filter}
use Rattle.udf_volume_model.specs.Anchor.{blocks_for, blocks_of, places, anchor_in}
use Rattle.udf_volume_model.specs.Kept.{KeptSequence, other as other_of, extent_of, opposite, limit_of, sequence_at, kept_sequence_by, kept_sequence_at, led_from, kept_sequence_in, or_else}
use Rattle.udf_volume_model.specs.Stated.{sparing}
use Rattle.udf_volume_model.specs.Maps.{SparingMap}
use Rattle.udf_volume_model.specs.Areas.{Area, partition_area, table_areas, covers, is_outside, table_or_none, used_by, used_table, layout_of, packets_of}
use Rattle.udf_volume_model.specs.Layout.{are_places_lawful, is_lawful, is_passed, earlier, are_packets, has_table, has_table_by, is_spared}
use Rattle.udf_volume_model.specs.SparingTable.{table_area, used_of, table_stated, prevailing_area}
use Rattle.udf_volume_model.specs.SparingRule.{agrees_with, is_coverable, is_empty, deviating, deviating_by, tables_agree, tables_hold}
use Rattle.udf_volume_model.specs.AllRules.{layout_in}
use Rattle.udf_volume_model.specs.Rules.{ascending_places, is_eligible, is_good, eligible, anchors_hold, sequences_hold, agrees}
use Rattle.udf_volume_laws.proofs.Members.{IsIn, kept_in, same_filter, same_all}
use Rattle.udf_volume_laws.proofs.Apart.{covered}
use Rattle.udf_volume_laws.proofs.Cut.{same_from}
use Rattle.udf_volume_laws.proofs.Prevailed.{area_at, same_prevailing}
use Rattle.udf_volume_laws.proofs.Ascending.{from_ascending}
use Rattle.udf_volume_laws.proofs.Places.{anchor_from}
use Rattle.udf_volume_laws.proofs.Led.{IsMain, IsReserve, passed_leads_none, same_sequence}
use Rattle.udf_volume_laws.proofs.Taken.{IsOpened, Facts, facts, areas_in, taken_in, outside_areas, passed_areas}
use Rattle.udf_volume_laws.proofs.Spares.{table_area_in}

-- the disks agree in what a volume is read from
pub record AgreeOn (size blocks : ℕ) (disk other : ℕ → List ℕ) (volume : KeptSequence) : Type 0 where
  pub main : (n : ℕ) → volume.anchor.main.start ≤ n → n < volume.anchor.main.start + blocks_of size volume.anchor.main → disk n ≡ other n
  pub reserve : (n : ℕ) → volume.anchor.reserve.start ≤ n → n < volume.anchor.reserve.start + blocks_of size volume.anchor.reserve → disk n ≡ other n
  pub tables : (area : Area) (n : ℕ) → IsIn area (table_areas size volume.list) → covers area n ≡ true → disk n ≡ other n
  pub at_places : (n : ℕ) → IsIn n (places blocks) → is_outside (taken_in size disk volume) n ≡ true → disk n ≡ other n

same_volume : (size : ℕ) (disk : ℕ → List ℕ) (volume : KeptSequence) → IsMain size disk volume ⊎ IsReserve size disk volume
    → kept_sequence_by volume.place volume.anchor (sequence_at size disk (limit_of size volume.anchor) volume.anchor.main) (sequence_at size disk (limit_of size volume.anchor) volume.anchor.reserve)
    ≡ Some volume
same_volume size disk volume (inl m) =
    ap (λ main. kept_sequence_by volume.place volume.anchor main (sequence_at size disk (limit_of size volume.anchor) volume.anchor.reserve)) m.1
    ∙ ap (λ w. Some (record { place = volume.place; anchor = volume.anchor; which = w; list = volume.list })) (sym m.0)
same_volume size disk volume (inr m) =
    ap (λ main. kept_sequence_by volume.place volume.anchor main (sequence_at size disk (limit_of size volume.anchor) volume.anchor.reserve)) m.1
    ∙ ap (kept_sequence_by volume.place volume.anchor None) m.2
    ∙ ap (λ w. Some (record { place = volume.place; anchor = volume.anchor; which = w; list = volume.list })) (sym m.0)

module _ (size blocks : ℕ) (disk other : ℕ → List ℕ) (volume : KeptSequence) (given : IsOpened size blocks disk volume)
    (agree : AgreeOn size blocks disk other volume) where
  known : Facts size blocks disk volume
  known = facts size blocks disk volume given

  place_leads : led_from size blocks other volume.place ≡ Some volume
  unfolding led_from
  place_leads =
      ap (λ b. kept_sequence_at size other volume.place (anchor_in size blocks volume.place b)) (sym (agree.at_places volume.place known.member known.outside))
      ∙ ap (kept_sequence_at size other volume.place) (anchor_from size blocks volume.place (disk volume.place) volume.anchor known.anchor)
      ∙ ap (λ main. kept_sequence_by volume.place volume.anchor main (sequence_at size other (limit_of size volume.anchor) volume.anchor.reserve))
      (sym (same_sequence size disk other (limit_of size volume.anchor) volume.anchor.main agree.main))
      ∙ ap (kept_sequence_by volume.place volume.anchor (sequence_at size disk (limit_of size volume.anchor) volume.anchor.main))
      (sym (same_sequence size disk other (limit_of size volume.anchor) volume.anchor.reserve agree.reserve))
      ∙ same_volume size disk volume known.side

  passed_stays : (n : ℕ) → IsIn n (places blocks) → is_passed size blocks disk (taken_in size disk volume) n ≡ true → is_passed size blocks other (taken_in size disk volume) n ≡ true
  unfolding is_passed
  passed_stays n i e =
      let parts = and_parts (is_outside (taken_in size disk volume) n) (is_none (anchor_in size blocks n (disk n))) e in
      and_from _ _ parts.0 (ap (λ b. is_none (anchor_in size blocks n b)) (sym (agree.at_places n i parts.0)) ∙ parts.1)

  reached : (xs : List ℕ) → ((n : ℕ) → IsIn n xs → IsIn n (places blocks)) → list_all (is_passed size blocks disk (taken_in size disk volume)) (earlier volume.place xs) ≡ true
      → IsIn volume.place xs → (kept_sequence_in size blocks other xs ≡ Some volume) × (list_all (is_passed size blocks other (taken_in size disk volume)) (earlier volume.place xs) ≡ true)
  unfolding kept_sequence_in earlier
  reached [] sub e i = absurd i
  reached (x ∷ xs) sub e i = by_here (reached xs (λ n j. sub n (inr j))) (cases_eq x volume.place) i where
    by_here : (list_all (is_passed size blocks disk (taken_in size disk volume)) (earlier volume.place xs) ≡ true → IsIn volume.place xs
        → (kept_sequence_in size blocks other xs ≡ Some volume) × (list_all (is_passed size blocks other (taken_in size disk volume)) (earlier volume.place xs) ≡ true))
        → (x ≡ volume.place) ⊎ (x ≡ volume.place → ⊥) → IsIn volume.place (x ∷ xs)
        → (or_else (led_from size blocks other x) (kept_sequence_in size blocks other xs) ≡ Some volume)
        × (list_all (is_passed size blocks other (taken_in size disk volume)) (cond (eqb x volume.place) [] (x ∷ earlier volume.place xs)) ≡ true)
    by_here rest (inl here) j = (
      ap (λ o. or_else o (kept_sequence_in size blocks other xs)) (ap (led_from size blocks other) here ∙ place_leads),
      ap (λ b. list_all (is_passed size blocks other (taken_in size disk volume)) (cond b [] (x ∷ earlier volume.place xs))) (eq-eqb _ _ here),
    )
    by_here rest (inr apart) (inl here) = absurd (apart (sym here))
    by_here rest (inr apart) (inr later) =
        let past : list_all (is_passed size blocks disk (taken_in size disk volume)) (x ∷ earlier volume.place xs) ≡ true =
        ap (λ b. list_all (is_passed size blocks disk (taken_in size disk volume)) (cond b [] (x ∷ earlier volume.place xs))) (sym (ne_eqb x volume.place apart)) ∙ e in
        let parts = and_parts (is_passed size blocks disk (taken_in size disk volume) x) (list_all (is_passed size blocks disk (taken_in size disk volume)) (earlier volume.place xs)) past in
        let next = rest parts.1 later in
        let here = passed_stays x (sub x (inl refl)) parts.0 in (
          ap (λ o. or_else o (kept_sequence_in size blocks other xs)) (passed_leads_none size blocks other (taken_in size disk volume) x here) ∙ next.0,
          ap (λ b. list_all (is_passed size blocks other (taken_in size disk volume)) (cond b [] (x ∷ earlier volume.place xs))) (ne_eqb x volume.place apart) ∙ and_from _ _ here next.1,
        )

  -- the tables are the same
  area_stays : (s : SparingMap) (at : ℕ) → sparing volume.list ≡ Some s → IsIn at s.tables → area_at size disk s at ≡ area_at size other s at
  unfolding table_area
  area_stays s at is i =
      let area : Area = record { start = at; count = blocks_for size s.bytes } in
      same_from disk other at (blocks_for size s.bytes) (λ n l h. agree.tables area n (table_area_in size volume.list s at is i) (covered area n l h))

  prevailing_stays : (s : SparingMap) → sparing volume.list ≡ Some s → prevailing_area size disk s ≡ prevailing_area size other s
  prevailing_stays s is = same_prevailing size disk other s (λ at i. area_stays s at is i)

  used_stays : used_table size other volume.list ≡ used_table size disk volume.list
  unfolding used_table table_stated
  used_stays = by_sparing (sparing volume.list) refl where
    count : ℕ
    count = (partition_area volume.list).count

    by_sparing : (o : Option SparingMap) → sparing volume.list ≡ o → used_by size other count o ≡ used_by size disk count o
    by_sparing None is = refl
    by_sparing (Some s) is = ap (λ o. table_or_none (option_map (used_of s.packet count) o)) (sym (prevailing_stays s is))

  layout_stays : layout_in size other volume ≡ layout_in size disk volume
  unfolding layout_of
  layout_stays = ap (λ t. record { areas = areas_in size volume; table = t }) used_stays

  table_stays : has_table size other volume.list ≡ true
  unfolding has_table
  table_stays = by_sparing (sparing volume.list) refl ∙ known_table where
    known_table : has_table_by size disk (sparing volume.list) ≡ true
    known_table = known.table

    by_sparing : (o : Option SparingMap) → sparing volume.list ≡ o → has_table_by size other o ≡ has_table_by size disk o
    by_sparing None is = refl
    by_sparing (Some s) is = ap (λ (o : Option (List ℕ)). is_some o) (sym (prevailing_stays s is))

  -- the other disk has the same volume, opened with it
  pub frame : ((n : ℕ) → n < blocks → length (other n) ≡ size) → IsOpened size blocks other volume
  unfolding is_lawful are_places_lawful is_spared layout_of
  frame full =
      let r = reached (places blocks) (λ n i. i) known.passed known.member in
      record {
        large = given.large;
        small = given.small;
        full = full;
        is = r.0;
        opened = and_from _ _ known.profile
            (and_from _ _ (and_from _ _ known.lawful (and_from _ _ (outside_areas size disk volume volume.place known.outside) (passed_areas size blocks disk other volume (earlier volume.place (places blocks)) r.1)))
            (and_from _ _ table_stays (ap (λ t. are_packets blocks volume.place (areas_in size volume) (packets_of t)) used_stays ∙ known.packets)));
      }

  outside_of : (n : ℕ) → is_eligible (taken_in size disk volume) n ≡ true → is_outside (taken_in size disk volume) n ≡ true
  unfolding is_eligible
  outside_of n e = (and_parts (leb 256 n) (is_outside (taken_in size disk volume) n) e).1

  place_of : (m : ℕ) → IsIn m (eligible blocks (layout_in size disk volume)) → IsIn m (places blocks) × (is_eligible (taken_in size disk volume) m ≡ true)
  unfolding eligible
  place_of m i = let k = kept_in (is_eligible (taken_in size disk volume)) (ascending_places blocks) m i in (from_ascending blocks m k.0, k.1)

  same_there : anchors_hold blocks (layout_in size disk volume) disk volume ≡ anchors_hold blocks (layout_in size disk volume) other volume
  unfolding anchors_hold
  same_there =
      let same : (m : ℕ) → IsIn m (eligible blocks (layout_in size disk volume)) → is_good volume.anchor m (disk m) ≡ is_good volume.anchor m (other m) =
      λ m i. let k = place_of m i in ap (is_good volume.anchor m) (agree.at_places m k.0 (outside_of m k.1)) in
      ap (λ xs. leb 2 (length xs) || list_all (λ m. is_good volume.anchor m (disk m)) (eligible blocks (layout_in size disk volume)))
      (same_filter (λ m. is_good volume.anchor m (disk m)) (λ m. is_good volume.anchor m (other m)) (eligible blocks (layout_in size disk volume)) same)
      ∙ ap (λ b. leb 2 (length (filter (λ m. is_good volume.anchor m (other m)) (eligible blocks (layout_in size disk volume)))) || b)
      (same_all (λ m. is_good volume.anchor m (disk m)) (λ m. is_good volume.anchor m (other m)) (eligible blocks (layout_in size disk volume)) same)

  -- and the rules hold of both or of none
  pub same_anchors : anchors_hold blocks (layout_in size disk volume) disk volume ≡ anchors_hold blocks (layout_in size other volume) other volume
  same_anchors = same_there ∙ ap (λ layout. anchors_hold blocks layout other volume) (sym layout_stays)

  pub same_tables : tables_hold size disk volume.list ≡ tables_hold size other volume.list
  unfolding tables_hold deviating
  same_tables = by_sparing (sparing volume.list) refl where
    by_table : (s : SparingMap) (o : Option (List ℕ)) → sparing volume.list ≡ Some s → is_empty (deviating_by size disk s o) ≡ is_empty (deviating_by size other s o)
    by_table s None is = refl
    by_table s (Some table) is =
        ap (λ xs. is_empty (cond (is_coverable table) xs []))
        (same_filter (λ at. not (agrees_with s.bytes at (area_at size disk s at) table)) (λ at. not (agrees_with s.bytes at (area_at size other s at) table)) s.tables
        (λ at i. ap (λ l. not (agrees_with s.bytes at l table)) (area_stays s at is i)))

    by_sparing : (o : Option SparingMap) → sparing volume.list ≡ o → tables_agree size disk o ≡ tables_agree size other o
    by_sparing None is = refl
    by_sparing (Some s) is = by_table s (prevailing_area size disk s) is ∙ ap (λ o. is_empty (deviating_by size other s o)) (prevailing_stays s is)

  pub same_sequences : sequences_hold size disk volume ≡ sequences_hold size other volume
  unfolding sequences_hold
  same_sequences = ap (agrees volume.list) (by_side known.side) where
    by_side : IsMain size disk volume ⊎ IsReserve size disk volume
        → sequence_at size disk (limit_of size volume.anchor) (other_of volume) ≡ sequence_at size other (limit_of size volume.anchor) (other_of volume)
    by_side (inl m) =
        ap (λ w. sequence_at size disk (limit_of size volume.anchor) (extent_of (opposite w) volume.anchor)) m.0
        ∙ same_sequence size disk other (limit_of size volume.anchor) volume.anchor.reserve agree.reserve
        ∙ ap (λ w. sequence_at size other (limit_of size volume.anchor) (extent_of (opposite w) volume.anchor)) (sym m.0)
    by_side (inr m) =
        ap (λ w. sequence_at size disk (limit_of size volume.anchor) (extent_of (opposite w) volume.anchor)) m.0
        ∙ same_sequence size disk other (limit_of size volume.anchor) volume.anchor.main agree.main
        ∙ ap (λ w. sequence_at size other (limit_of size volume.anchor) (extent_of (opposite w) volume.anchor)) (sym m.0)
