-- Opened volumes: what they take of the image, and what lies outside of it.
use Rattle.std.proofs.Common.{◌≡◌, ℕ, ◌^◌, ◌<◌, ◌≤◌, arith, refl, sym, ◌∙◌, ap, subst, List, ◌∷◌, ◌++◌, length, true, false, not, ◌&&◌, ltb, Some, inl, inr, ◌⊎◌}
use Rattle.std.specs.Prelude.{is_none}
use Rattle.std.specs.List.{list_all}
use Rattle.std.proofs.lemmas.Bool.{and_parts, and_from, not_from_false}
use Rattle.udf_volume_model.specs.Anchor.{places, anchor_in}
use Rattle.udf_volume_model.specs.Kept.{KeptSequence, kept, other, kept_sequence_in}
use Rattle.udf_volume_model.specs.Areas.{Area, areas_of, covers, is_outside, used_table, layout_of, packets_of, taken}
use Rattle.udf_volume_model.specs.Profile.{is_profile}
use Rattle.udf_volume_model.specs.Layout.{is_apart, are_apart, is_inside, are_lawful, are_places_lawful, is_lawful, is_passed, earlier, anchor_areas, is_packet, are_packets, has_table, is_spared}
use Rattle.udf_volume_model.specs.AllRules.{layout_in}
use Rattle.udf_volume_model.specs.Opened.{is_opened_by}
use Rattle.udf_volume_laws.proofs.Members.{IsIn, all_at, all_from, in_front, in_back, in_either, mapped_in, mapped_from}
use Rattle.udf_volume_laws.proofs.Apart.{covered, outside_at, apart_back, not_both}
use Rattle.udf_volume_laws.proofs.Places.{IsAnchor, is_anchor}
use Rattle.udf_volume_laws.proofs.Led.{IsLed, IsMain, IsReserve, found}
use Rattle.udf_volume_laws.proofs.Pair.{IsPair, pair}

abbrev pub areas_in : ℕ → KeptSequence → List Area
areas_in size volume = areas_of size volume.anchor volume.list

abbrev pub packets_in : ℕ → (ℕ → List ℕ) → KeptSequence → List Area
packets_in size disk volume = packets_of (used_table size disk volume.list)

abbrev pub taken_in : ℕ → (ℕ → List ℕ) → KeptSequence → List Area
taken_in size disk volume = taken (layout_in size disk volume)

-- a disk whose volume is opened
pub record IsOpened (size blocks : ℕ) (disk : ℕ → List ℕ) (volume : KeptSequence) : Type 0 where
  pub large : 512 ≤ size
  pub small : blocks < 2 ^ 32
  pub full : (n : ℕ) → n < blocks → length (disk n) ≡ size
  pub is : kept_sequence_in size blocks disk (places blocks) ≡ Some volume
  pub opened : is_opened_by size blocks disk (Some volume) ≡ true

-- what it takes is its areas and its used packets
pub area_taken : (size : ℕ) (disk : ℕ → List ℕ) (volume : KeptSequence) (area : Area) → IsIn area (areas_in size volume) → IsIn area (taken_in size disk volume)
unfolding taken layout_of
area_taken size disk volume area i = in_front (areas_in size volume) (packets_in size disk volume) area i

pub packet_taken : (size : ℕ) (disk : ℕ → List ℕ) (volume : KeptSequence) (packet : Area) → IsIn packet (packets_in size disk volume) → IsIn packet (taken_in size disk volume)
unfolding taken layout_of
packet_taken size disk volume packet i = in_back (areas_in size volume) (packets_in size disk volume) packet i

outside_from : (areas : List Area) (n : ℕ) → ((area : Area) → IsIn area areas → covers area n ≡ false) → is_outside areas n ≡ true
unfolding is_outside
outside_from areas n h = all_from (λ area. not (covers area n)) areas (λ area i. not_from_false _ (h area i))

pub outside_areas : (size : ℕ) (disk : ℕ → List ℕ) (volume : KeptSequence) (n : ℕ) → is_outside (taken_in size disk volume) n ≡ true → is_outside (areas_in size volume) n ≡ true
outside_areas size disk volume n e =
    outside_from (areas_in size volume) n (λ area i. outside_at (taken_in size disk volume) n area e (area_taken size disk volume area i))

-- a place that is passed beside all that is taken is passed beside the areas
pub passed_areas : (size blocks : ℕ) (disk other : ℕ → List ℕ) (volume : KeptSequence) (xs : List ℕ) → list_all (is_passed size blocks other (taken_in size disk volume)) xs ≡ true
    → list_all (is_passed size blocks other (areas_in size volume)) xs ≡ true
unfolding is_passed
passed_areas size blocks disk other volume xs p = all_from (is_passed size blocks other (areas_in size volume)) xs (λ n i.
    let parts = and_parts (is_outside (taken_in size disk volume) n) (is_none (anchor_in size blocks n (other n))) (all_at (is_passed size blocks other (taken_in size disk volume)) xs n p i) in
    and_from _ _ (outside_areas size disk volume n parts.0) parts.1)

outside_both : (size : ℕ) (disk : ℕ → List ℕ) (volume : KeptSequence) (n : ℕ) → is_outside (areas_in size volume) n ≡ true
    → ((packet : Area) → IsIn packet (packets_in size disk volume) → covers packet n ≡ false) → is_outside (taken_in size disk volume) n ≡ true
unfolding taken layout_of
outside_both size disk volume n e h =
    outside_from (areas_in size volume ++ packets_in size disk volume) n (λ area i. by_part area (in_either (areas_in size volume) (packets_in size disk volume) area i))
  where
    by_part : (area : Area) → IsIn area (areas_in size volume) ⊎ IsIn area (packets_in size disk volume) → covers area n ≡ false
    by_part area (inl i) = outside_at (areas_in size volume) n area e i
    by_part area (inr i) = h area i

-- what is known of the used packets of a table, beside some places
pub packet_apart : (blocks place : ℕ) (areas packets : List Area) (packet area : Area) → are_packets blocks place areas packets ≡ true → IsIn packet packets
    → IsIn area (areas ++ anchor_areas blocks place) → is_apart packet area ≡ true
unfolding are_packets is_packet
packet_apart blocks place areas packets packet area e i j =
    let others : List Area = areas ++ anchor_areas blocks place in
    let all = and_parts (list_all (is_packet blocks others) packets) (are_apart packets) e in
    let one = and_parts (is_inside blocks packet) (ltb 128 packet.start && list_all (is_apart packet) others) (all_at (is_packet blocks others) packets packet all.0 i) in
    all_at (is_apart packet) others area (and_parts (ltb 128 packet.start) (list_all (is_apart packet) others) one.1).1 j

-- a place is in none of the packets
off_packet : (blocks place : ℕ) (areas packets : List Area) (n : ℕ) → are_packets blocks place areas packets ≡ true → IsIn n (place ∷ earlier place (places blocks))
    → (packet : Area) → IsIn packet packets → covers packet n ≡ false
unfolding anchor_areas
off_packet blocks place areas packets n e i packet j =
    let at : Area = record { start = n; count = 1 } in
    not_both at packet n
    (apart_back packet at (packet_apart blocks place areas packets packet at e j
    (in_back areas (anchor_areas blocks place) at (mapped_in (λ (m : ℕ). record { start = m; count = 1 }) (place ∷ earlier place (places blocks)) n i))))
    (covered at n (omega arith) (omega arith))

-- packets that are lawful beside some places are so beside fewer
pub packets_beside : (blocks before after : ℕ) (areas packets : List Area) → are_packets blocks before areas packets ≡ true
    → ((n : ℕ) → IsIn n (after ∷ earlier after (places blocks)) → IsIn n (before ∷ earlier before (places blocks)))
    → are_packets blocks after areas packets ≡ true
unfolding are_packets is_packet anchor_areas
packets_beside blocks before after areas packets e fewer =
    let all = and_parts (list_all (is_packet blocks (areas ++ anchor_areas blocks before)) packets) (are_apart packets) e in
    and_from _ _ (all_from (is_packet blocks (areas ++ anchor_areas blocks after)) packets (λ packet i. by_packet packet i (all_at (is_packet blocks (areas ++ anchor_areas blocks before)) packets packet all.0 i))) all.1
  where
    by_part : (packet : Area) → IsIn packet packets → (area : Area) → IsIn area areas ⊎ IsIn area (anchor_areas blocks after) → is_apart packet area ≡ true
    by_part packet i area (inl j) = packet_apart blocks before areas packets packet area e i (in_front areas (anchor_areas blocks before) area j)
    by_part packet i area (inr j) =
        let from = mapped_from (λ (m : ℕ). record { start = m; count = 1 }) (after ∷ earlier after (places blocks)) area j in
        ap (is_apart packet) from.2
        ∙ packet_apart blocks before areas packets packet (record { start = from.0; count = 1 }) e i
        (in_back areas (anchor_areas blocks before) (record { start = from.0; count = 1 })
        (mapped_in (λ (m : ℕ). record { start = m; count = 1 }) (before ∷ earlier before (places blocks)) from.0 (fewer from.0 from.1)))

    by_packet : (packet : Area) → IsIn packet packets → is_packet blocks (areas ++ anchor_areas blocks before) packet ≡ true → is_packet blocks (areas ++ anchor_areas blocks after) packet ≡ true
    by_packet packet i t =
        let one = and_parts (is_inside blocks packet) (ltb 128 packet.start && list_all (is_apart packet) (areas ++ anchor_areas blocks before)) t in
        let two = and_parts (ltb 128 packet.start) (list_all (is_apart packet) (areas ++ anchor_areas blocks before)) one.1 in
        and_from _ _ one.0 (and_from _ _ two.0
        (all_from (is_apart packet) (areas ++ anchor_areas blocks after) (λ area j. by_part packet i area (in_either areas (anchor_areas blocks after) area j))))

-- what follows at once
pub record Facts (size blocks : ℕ) (disk : ℕ → List ℕ) (volume : KeptSequence) : Type 0 where
  pub member : IsIn volume.place (places blocks)
  pub side : IsMain size disk volume ⊎ IsReserve size disk volume
  pub anchor : IsAnchor size blocks volume.place (disk volume.place) volume.anchor
  pub pairing : IsPair size blocks volume.anchor volume.list (kept volume) (other volume)
  pub profile : is_profile size volume.list ≡ true
  pub lawful : are_lawful size blocks volume.list (areas_in size volume) ≡ true
  pub table : has_table size disk volume.list ≡ true
  pub packets : are_packets blocks volume.place (areas_in size volume) (packets_in size disk volume) ≡ true
  pub outside : is_outside (taken_in size disk volume) volume.place ≡ true
  pub passed : list_all (is_passed size blocks disk (taken_in size disk volume)) (earlier volume.place (places blocks)) ≡ true

pub facts : (size blocks : ℕ) (disk : ℕ → List ℕ) (volume : KeptSequence) → IsOpened size blocks disk volume → Facts size blocks disk volume
unfolding is_lawful are_places_lawful is_spared layout_of is_passed
facts size blocks disk volume a =
    let areas : List Area = areas_in size volume in
    let place = found size blocks disk (places blocks) volume a.is in
    let led : IsLed size blocks disk volume.place volume = subst (λ (n : ℕ). IsLed size blocks disk n volume) (sym place.2.here) place.2 in
    let anchor = is_anchor size blocks volume.place (disk volume.place) volume.anchor led.anchor in
    let one = and_parts (is_profile size volume.list) (is_lawful size blocks disk volume && is_spared size blocks disk volume) a.opened in
    let two = and_parts (is_lawful size blocks disk volume) (is_spared size blocks disk volume) one.1 in
    let three = and_parts (are_lawful size blocks volume.list areas) (are_places_lawful size blocks disk volume.place areas) two.0 in
    let four = and_parts (is_outside areas volume.place) (list_all (is_passed size blocks disk areas) (earlier volume.place (places blocks))) three.1 in
    let five = and_parts (has_table size disk volume.list) (are_packets blocks volume.place areas (packets_in size disk volume)) two.1 in
    let passes : (n : ℕ) → IsIn n (earlier volume.place (places blocks)) → is_passed size blocks disk (taken_in size disk volume) n ≡ true =
    λ n i. let parts = and_parts (is_outside areas n) (is_none (anchor_in size blocks n (disk n))) (all_at (is_passed size blocks disk areas) (earlier volume.place (places blocks)) n four.1 i) in
    and_from _ _ (outside_both size disk volume n parts.0 (off_packet blocks volume.place areas (packets_in size disk volume) n five.1 (inr i))) parts.1 in
    record {
      member = subst (λ (n : ℕ). IsIn n (places blocks)) (sym place.2.here) place.1;
      side = led.side;
      anchor = anchor;
      pairing = pair size blocks disk volume.place volume led anchor.within three.0;
      profile = one.0;
      lawful = three.0;
      table = five.0;
      packets = five.1;
      outside = outside_both size disk volume volume.place four.0 (off_packet blocks volume.place areas (packets_in size disk volume) volume.place five.1 (inl refl));
      passed = all_from (is_passed size blocks disk (taken_in size disk volume)) (earlier volume.place (places blocks)) passes;
    }
