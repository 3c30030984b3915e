-- Where a volume places addresses, a repair may write: the partition and the used packets lie beside the kept descriptors.
use Rattle.std.proofs.Common.{◌≡◌, ◌⊎◌, inl, inr, ℕ, ◌+◌, ◌%◌, ◌<◌, arith, refl, sym, ap, ◌∙◌, List, [], ◌∷◌, ◌++◌, map, Bool, true, false, cond, Option, Some, None}
use Rattle.std.specs.Prelude.{nat_lt, ◌==◌}
use Rattle.std.specs.List.{find, list_all}
use Rattle.std.proofs.Math.Nat.{mod-lt}
use Rattle.std.proofs.lemmas.Bool.{and_parts}
use Rattle.udf_file_model.specs.Place.{Place, moved_to, or_else, packet_start, physical_place, spared_to, sparable_place}
use Rattle.udf_volume_model.specs.Areas.{Area, covers, packets_of}
use Rattle.udf_volume_model.specs.Layout.{anchor_areas, are_apart, are_packets_of, is_apart, is_inside}
use Rattle.udf_volume_model.specs.SparingTable.{Table}
use Rattle.udf_volume_laws.proofs.Apart.{apart_back, between, covered, not_both, tail_apart, uncovered}
use Rattle.udf_volume_laws.proofs.Members.{IsIn, in_back, in_front}
use Rattle.udf_volume_laws.proofs.Taken.{packet_apart}
use Rattle.udf_layer.specs.Physicals.{physical_is}
use Rattle.udf_volume.specs.Areas.{area_stated, areas_stated, integrity_stated, partition_stated, tables_stated}
use Rattle.udf_volume.specs.Laid.{IsLaidOut, areas_laid}
use Rattle.udf_volume.specs.Opened.{IsBounded}
use Rattle.udf_volume.specs.Spans.{kept_span, span_by}
use Rattle.udf_volume.specs.declared.volume.Volume.{Volume}
use Rattle.udf_volume.specs.declared.volume.Which.{Which}
use Rattle.udf_volume.specs.declared.volume.Which.TheVariants.{Main, Reserve}
use Rattle.udf_rules_model.specs.Places.{place_by}
use Rattle.udf_plan.proofs.Free.{free_beside}
use Rattle.udf_wanted.specs.Writable.{is_free}

abbrev packet_area : ℕ → ℕ × ℕ → Area
packet_area packet pair = record { start = pair.1; count = packet }

-- a sector of one of some packets
record IsInPacket (packet : ℕ) (pairs : List (ℕ × ℕ)) (s : ℕ) : Type 0 where
  area : Area
  among : IsIn area (map (packet_area packet) pairs)
  covered_there : covers area s ≡ true

-- a block that an entry maps stands in its packet
mapped_in : (packet : ℕ) (pairs : List (ℕ × ℕ)) (n s : ℕ) → 0 < packet → spared_to packet pairs n ≡ Some s → IsInPacket packet pairs s
unfolding spared_to
mapped_in packet [] n s some h = absurd (cc)
mapped_in packet (pair ∷ pairs) n s some h = by (λ k. mapped_in packet pairs n s some k) (pair.0 == packet_start packet n) h
  where
    some_is : (x y : ℕ) → Some x ≡ Some y → x ≡ y
    some_is x y i = cc

    by : (moved_to (n % packet) (find (λ p. p.0 == packet_start packet n) pairs) ≡ Some s → IsInPacket packet pairs s) → (b : Bool)
        → moved_to (n % packet) (cond b (Some pair) (find (λ p. p.0 == packet_start packet n) pairs)) ≡ Some s → IsInPacket packet (pair ∷ pairs) s
    by rec true k =
        let m = mod-lt n some in
        let d = some_is (pair.1 + n % packet) s k in
        record { area = packet_area packet pair; among = inl refl; covered_there = covered (packet_area packet pair) s (omega (arith, d)) (omega (arith, m, d)) }
    by rec false k = let r = rec k in record { area = r.area; among = inr r.among; covered_there = r.covered_there }

none_mapped : (packet n s : ℕ) → spared_to packet [] n ≡ Some s → ⊥
unfolding spared_to
none_mapped packet n s h = cc

module _ (volume : Volume) (b : IsBounded volume.size volume.blocks volume) (laid : IsLaidOut volume) where
  abbrev kept : Area
  kept = area_stated volume.size (kept_span volume)

  abbrev further : List Area
  further = integrity_stated volume ++ (partition_stated volume ∷ tables_stated volume)

  all_apart : are_apart (areas_stated volume) ≡ true
  unfolding areas_laid
  all_apart = (and_parts (are_apart (areas_stated volume)) _ (and_parts (list_all (is_inside volume.blocks) (areas_stated volume)) _ laid.areas).1).0

  partition_apart : is_apart kept (partition_stated volume) ≡ true
  partition_apart = by volume.kept
    where
      among : IsIn (partition_stated volume) further
      among = in_back (integrity_stated volume) (partition_stated volume ∷ tables_stated volume) (partition_stated volume) (inl refl)

      main : Area
      main = area_stated volume.size volume.main

      reserve : Area
      reserve = area_stated volume.size volume.reserve

      by : (w : Which) → is_apart (area_stated volume.size (span_by w volume)) (partition_stated volume) ≡ true
      by Main = between (main ∷ []) (reserve ∷ further) main (partition_stated volume) all_apart (inl refl) (inr among)
      by Reserve = between (reserve ∷ []) further reserve (partition_stated volume) (tail_apart (main ∷ []) (reserve ∷ further) all_apart) (inl refl) among

  kept_among : IsIn kept (areas_stated volume)
  kept_among = by volume.kept
    where
      by : (w : Which) → IsIn (area_stated volume.size (span_by w volume)) (areas_stated volume)
      by Main = inl refl
      by Reserve = inr (inl refl)

  -- a sector of an area apart from the kept extent
  free_apart : (area : Area) (s : ℕ) → s < volume.blocks → is_apart area kept ≡ true → covers area s ≡ true → is_free volume s ≡ true
  free_apart area s inside apart c = free_beside volume b s (uncovered kept s (not_both area kept s apart c)) inside

  module _ (table : Table) (usable : (table.pairs ≡ []) ⊎ (0 < table.packet))
      (packets : are_packets_of volume.blocks volume.anchor (record { areas = areas_stated volume; table = table }) ≡ true) where
    abbrev below : Place
    below = physical_place volume.start volume.length

    in_partition : (n s : ℕ) → s < volume.blocks → below n ≡ Some s → is_free volume s ≡ true
    in_partition n s inside h =
        let p = physical_is volume.start volume.length n s h in
        free_apart (partition_stated volume) s inside (apart_back kept (partition_stated volume) partition_apart)
        (covered (partition_stated volume) s (omega (arith, p.1)) (omega (arith, p.0, p.1)))

    in_packet : (s : ℕ) → s < volume.blocks → IsInPacket table.packet table.pairs s → is_free volume s ≡ true
    unfolding packets_of
    in_packet s inside r =
        free_apart r.area s inside
        (packet_apart volume.blocks volume.anchor (areas_stated volume) (packets_of table) r.area kept packets r.among
        (in_front (areas_stated volume) (anchor_areas volume.blocks volume.anchor) kept kept_among))
        r.covered_there

    -- a block that an entry maps, or none does
    spared_free : (n s : ℕ) → s < volume.blocks → (o : Option ℕ) → spared_to table.packet table.pairs n ≡ o → or_else o (below n) ≡ Some s → is_free volume s ≡ true
    spared_free n s inside None e h = in_partition n s inside h
    spared_free n s inside (Some x) e h = by usable
      where
        by : (table.pairs ≡ []) ⊎ (0 < table.packet) → is_free volume s ≡ true
        by (inl i) = absurd (none_mapped table.packet n x (sym (ap (λ pairs. spared_to table.packet pairs n) i) ∙ e))
        by (inr some) = in_packet s inside (mapped_in table.packet table.pairs n s some (e ∙ h))

    pub placed_free : (n s : ℕ) → s < volume.blocks → place_by (partition_stated volume) table n ≡ Some s → is_free volume s ≡ true
    unfolding sparable_place
    placed_free n s inside h = by (nat_lt n volume.length) h
      where
        by : (t : Bool) → cond t (or_else (spared_to table.packet table.pairs n) (below n)) None ≡ Some s → is_free volume s ≡ true
        by true k = spared_free n s inside (spared_to table.packet table.pairs n) refl k
        by false k = absurd (cc)
