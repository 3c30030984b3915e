-- What no mend writes: the partition, the used packets, the kept descriptors, and what lies past the image's blocks.
use Rattle.std.proofs.Common.{◌≡◌, ℕ, ◌≤◌, arith, sym, List, [], Bool, true, false, cond, inl, inr}
use Rattle.std.specs.List.{list_any}
use Rattle.udf_model.specs.Tag.{relocated}
use Rattle.udf_volume_model.specs.Kept.{KeptSequence, other}
use Rattle.udf_volume_model.specs.Areas.{Area, area_of, partition_area, table_areas, covers}
use Rattle.udf_volume_model.specs.Layout.{anchor_areas}
use Rattle.udf_volume_model.specs.Opened.{sealed, is_sealed}
use Rattle.udf_volume_model.specs.Rules.{eligible, bad_of, anchors_hold}
use Rattle.udf_volume_model.specs.AllRules.{layout_in}
use Rattle.udf_volume_model.specs.Mended.{anchor_edits}
use Rattle.udf_volume_laws.proofs.Puts.{IsOff, chosen, chosen_off}
use Rattle.udf_volume_laws.proofs.Members.{IsIn, any_passes, in_front}
use Rattle.udf_volume_laws.proofs.Apart.{uncovered, within_area, not_both, uncovered_by, not_eligible, spread, further_area, partition_further, table_further}
use Rattle.udf_volume_laws.proofs.Ascending.{ascending_within}
use Rattle.udf_volume_laws.proofs.Taken.{IsOpened, Facts, facts, areas_in, packets_in, packet_taken, packet_apart}
use Rattle.udf_volume_laws.proofs.Spares.{spares, tables_off, all_inside}
use Rattle.udf_volume_laws.proofs.Beside.{sequence_off, bad_parts, anchors_off_edits, untouched}
use Rattle.udf_volume_laws.proofs.After.{after as after_of, whole, kept_stays, not_eligible_in}

module _ (size blocks : ℕ) (disk : ℕ → List ℕ) (volume : KeptSequence) (given : IsOpened size blocks disk volume) where
  abbrev after : ℕ → List ℕ
  after n = after_of size blocks disk volume given n

  known : Facts size blocks disk volume
  known = facts size blocks disk volume given

  -- a sector that an area covers which is apart from the other extent and from the tables, and in which no place is eligible
  beside : (area : Area) (n : ℕ) → covers area n ≡ true → covers (area_of size (other volume)) n ≡ false
      → ((table : Area) → IsIn table (table_areas size volume.list) → covers table n ≡ false)
      → IsOff n (anchor_edits blocks (layout_in size disk volume) disk volume) → after n ≡ disk n
  beside area n c side tables places =
      untouched size blocks disk volume n
      (sequence_off size disk volume n (whole size blocks disk volume given).below known.pairing.other_limit (uncovered (area_of size (other volume)) n side))
      places
      (tables_off size blocks disk volume.list (omega (arith, given.large)) given.full (spares size blocks disk volume.anchor volume.list known.lawful known.table) n
      (λ table i. uncovered table n (tables table i)))

  pub partition_stays : (n : ℕ) → covers (partition_area volume.list) n ≡ true → after n ≡ disk n
  partition_stays n c =
      let parts = spread size blocks volume.anchor volume.list known.lawful in
      let listed = partition_further size volume.list in
      beside (partition_area volume.list) n c
      (uncovered_by (area_of size (other volume)) (partition_area volume.list) n (known.pairing.other_off (partition_area volume.list) n listed) c)
      (λ table i. not_both (partition_area volume.list) table n (parts.partition table i) c)
      (anchors_off_edits size blocks disk volume n
      (inl (not_eligible_in size blocks disk volume given (partition_area volume.list) n (further_area size volume.anchor volume.list (partition_area volume.list) listed) c)))

  packet_off : (packet : Area) (n : ℕ) → IsIn packet (packets_in size disk volume) → covers packet n ≡ true → (area : Area) → IsIn area (areas_in size volume) → covers area n ≡ false
  packet_off packet n i c area j =
      not_both packet area n
      (packet_apart blocks volume.place (areas_in size volume) (packets_in size disk volume) packet area known.packets i
      (in_front (areas_in size volume) (anchor_areas blocks volume.place) area j)) c

  packet_stays : (packet : Area) (n : ℕ) → IsIn packet (packets_in size disk volume) → covers packet n ≡ true → after n ≡ disk n
  packet_stays packet n i c =
      beside packet n c
      (packet_off packet n i c (area_of size (other volume)) known.pairing.other_listed)
      (λ table j. packet_off packet n i c table (further_area size volume.anchor volume.list table (table_further size volume.list table j)))
      (anchors_off_edits size blocks disk volume n
      (inl (not_eligible _ packet n (packet_taken size disk volume packet i) c)))

  pub packets_stay : (n : ℕ) → list_any (λ area. covers area n) (packets_in size disk volume) ≡ true → after n ≡ disk n
  packets_stay n e = let found = any_passes (λ area. covers area n) (packets_in size disk volume) e in packet_stays found.0 n found.1 found.2

  pub sealed_stays : (n : ℕ) → is_sealed volume n ≡ true → after n ≡ disk n
  unfolding is_sealed
  sealed_stays n e =
      let inside = within_area (sealed volume) n e in
      sym (kept_stays size blocks disk volume given n inside.0 (omega (arith, inside.1, (whole size blocks disk volume given).below, known.pairing.kept_limit)))

  pub past_stays : (n : ℕ) → blocks ≤ n → after n ≡ disk n
  unfolding anchor_edits
  past_stays n past =
      untouched size blocks disk volume n
      (sequence_off size disk volume n (whole size blocks disk volume given).below known.pairing.other_limit (inr (omega (arith, known.pairing.other_room.within))))
      (by_rule (anchors_hold blocks (layout_in size disk volume) disk volume))
      (tables_off size blocks disk volume.list (omega (arith, given.large)) given.full (spares size blocks disk volume.anchor volume.list known.lawful known.table) n
      (λ table i. inr (omega (
        arith,
        all_inside size blocks volume.anchor volume.list known.lawful table
            (further_area size volume.anchor volume.list table (table_further size volume.list table i)),
      ))))
    where
      by_rule : (b : Bool) → IsOff n (cond b [] (chosen (λ place. relocated place (disk volume.place)) (bad_of disk volume (eligible blocks (layout_in size disk volume)))))
      by_rule true = tt
      by_rule false = chosen_off (λ place. relocated place (disk volume.place)) (bad_of disk volume (eligible blocks (layout_in size disk volume))) n
          (λ i. omega (arith, ascending_within blocks n (bad_parts size blocks disk volume n i).place))
