-- Used packets among what a volume takes, and the layout of a volume.
use Rattle.std.proofs.Common.{◌≡◌, ℕ, zero, suc, ◌+◌, ◌*◌, ◌<◌, ◌≤◌, arith, refl, sym, ◌∙◌, ap, inl, inr, List, [], ◌∷◌, ◌++◌, length, map, min, not, Bool, true, false, cond, eqb, ◌&&◌, nat_le, nat_lt, Option, Some, None, append-nil, append_assoc}
use Rattle.std.specs.Prelude.{option_map, is_some, slice_index}
use Rattle.std.specs.List.{list_all, range_with_len}
use Rattle.std.proofs.Math.Nat.{mul-le-mul_right}
use Rattle.std.proofs.lemmas.Simd.{map-map}
use Rattle.std.proofs.lemmas.List.{map-append}
use Rattle.std.proofs.lemmas.List.Folds.{list_all-map, list_all-append}
use Rattle.std.proofs.lemmas.Bool.{and_parts, cases_lt, eq-eqb, leb-true, ne_eqb}
use Rattle.std.proofs.lemmas.Bool.Decides.{nat_tests}
use Rattle.udf_outside.specs.Files.{Files}
use Rattle.udf_volume_model.specs.Anchor.{blocks_for, places}
use Rattle.udf_volume_model.specs.Areas as model
use Rattle.udf_volume_model.specs.Areas.{covers, is_outside, packets_of, tables_by, taken, no_table, table_or_none, used_by}
use Rattle.udf_volume_model.specs.Layout.{is_apart, are_apart, is_inside, is_packet, are_packets, anchor_areas, earlier, has_table_by}
use Rattle.udf_volume_model.specs.Maps.{is_base_lawful, is_sparing_lawful}
use Rattle.udf_volume_model.specs.SparingTable.{Table, prevailing_area, table_stated, used_of}
use Rattle.udf_layer.specs.Packets.{in_packet, outside_packets, packet_apart, packets_apart}
use Rattle.udf_layer.specs.Lawful.{area_apart, is_free, is_lawful}
use Rattle.udf_layer.specs.Prevailing.{IsTableMap}
use Rattle.udf_layer.specs.Tables.{area_bytes, map_seen}
use Rattle.udf_layer.specs.declared.area.Area.{Area}
use Rattle.udf_layer.specs.declared.maps.SparingMap.{SparingMap}
use Rattle.udf_volume.specs.Areas.{area_seen, area_stated, block_area, layout_stated, areas_stated, integrity_stated, partition_stated, sparing_seen, table_used, tables_stated}
use Rattle.udf_volume.specs.Laid.{areas_laid, IsLaidOut}
use Rattle.udf_volume.specs.Opened.{IsBounded}
use Rattle.udf_volume.specs.Over.{IsOver}
use Rattle.udf_volume.specs.Taken.{is_spared_stated}
use Rattle.udf_volume.specs.declared.volume.Volume.{Volume}

-- sectors outside what is taken
abbrev pub packet_of : ℕ → ℕ × ℕ → model.Area
packet_of packet pair = record { start = pair.1; count = packet }

outside_both : (areas packets : List model.Area) (n : ℕ) → is_outside (areas ++ packets) n ≡ (is_outside areas n && is_outside packets n)
unfolding is_outside
outside_both areas packets n = list_all-append (λ area. not (covers area n)) areas packets

outside_is : (table : Table) (n : ℕ) → is_outside (packets_of table) n ≡ outside_packets table.packet table.pairs n
unfolding is_outside packets_of outside_packets covers in_packet
outside_is table n = list_all-map (λ area. not (covers area n)) (packet_of table.packet) table.pairs

taken_as : (areas : List model.Area) (table : Table) (n : ℕ) → is_outside (taken (record { areas = areas; table = table })) n
    ≡ (is_outside areas n && outside_packets table.packet table.pairs n)
unfolding taken
taken_as areas table n = outside_both areas (packets_of table) n ∙ ap (λ b. is_outside areas n && b) (outside_is table n)

module _ (areas : List model.Area) (n : ℕ) where
  pub in_area : (table : Table) → false ≡ is_outside areas n → false ≡ is_outside (taken (record { areas = areas; table = table })) n
  in_area table e = sym (taken_as areas table n ∙ ap (λ b. b && outside_packets table.packet table.pairs n) (sym e))

  pub no_packets : (table : Option Table) → table ≡ None → true ≡ is_outside areas n → true ≡ is_outside (taken (record { areas = areas; table = table_or_none table })) n
  unfolding outside_packets
  no_packets table none e =
      sym (ap (λ t. is_outside (taken (record { areas = areas; table = table_or_none t })) n) none
      ∙ taken_as areas no_table n ∙ ap (λ b. b && true) (sym e))

  pub in_packets : (table : Option Table) (found : Table) (answer : Bool) → table ≡ Some found → true ≡ is_outside areas n
      → answer ≡ outside_packets found.packet found.pairs n → answer ≡ is_outside (taken (record { areas = areas; table = table_or_none table })) n
  in_packets table found answer some e a =
      a ∙ sym (ap (λ t. is_outside (taken (record { areas = areas; table = table_or_none t })) n) some
      ∙ taken_as areas found n ∙ ap (λ b. b && outside_packets found.packet found.pairs n) (sym e))

-- the places before one, as areas
module _ (kept : ℕ) (areas : List model.Area) where
  pub none_before : (places : List ℕ) → length places ≡ 0 → areas ≡ areas ++ map block_area (earlier kept places)
  unfolding earlier
  none_before [] e = sym (append-nil areas)
  none_before (place ∷ rest) e = absurd (omega arith)

  pub kept_before : (place : ℕ) (rest : List ℕ) → place ≡ kept → areas ≡ areas ++ map block_area (earlier kept (place ∷ rest))
  unfolding earlier
  kept_before place rest e =
      sym (ap (λ b. areas ++ map block_area (cond b [] (place ∷ earlier kept rest))) (eq-eqb place kept e) ∙ append-nil areas)

  one_before : (place : ℕ) (rest : List ℕ) (after : List model.Area) → eqb place kept ≡ false
      → after ≡ (areas ++ (block_area place ∷ [])) ++ map block_area (earlier kept rest) → after ≡ areas ++ map block_area (earlier kept (place ∷ rest))
  unfolding earlier
  one_before place rest after e is =
      is ∙ append_assoc areas (block_area place ∷ []) (map block_area (earlier kept rest))
      ∙ sym (ap (λ b. areas ++ map block_area (cond b [] (place ∷ earlier kept rest))) e)

pub rest_before : (kept : ℕ) (areas pushed : List Area) (after : List model.Area) (place : ℕ) (rest : List ℕ) → (place ≡ kept → ⊥)
    → pushed ≡ areas ++ (record { start = place; blocks = 1 } ∷ []) → after ≡ map area_seen pushed ++ map block_area (earlier kept rest)
    → after ≡ map area_seen areas ++ map block_area (earlier kept (place ∷ rest))
rest_before kept areas pushed after place rest off is e =
    one_before kept (map area_seen areas) place rest after (ne_eqb place kept off)
    (e ∙ ap (λ l. l ++ map block_area (earlier kept rest)) (ap (map area_seen) is ∙ map-append area_seen areas _))

-- the areas, the kept anchor and the places before it
pub all_areas : (blocks kept : ℕ) (list : List ℕ) (areas pushed : List Area) (stated after : List model.Area) → list ≡ places blocks
    → map area_seen areas ≡ stated → pushed ≡ areas ++ (record { start = kept; blocks = 1 } ∷ [])
    → after ≡ map area_seen pushed ++ map block_area (earlier kept list) → after ≡ stated ++ anchor_areas blocks kept
unfolding anchor_areas
all_areas blocks kept list areas pushed stated after l a p e =
    e ∙ ap (λ x. x ++ map block_area (earlier kept list)) (ap (map area_seen) p ∙ map-append area_seen areas _ ∙ ap (λ x. x ++ (block_area kept ∷ [])) a)
    ∙ append_assoc stated (block_area kept ∷ []) (map block_area (earlier kept list))
    ∙ ap (λ p. stated ++ (block_area kept ∷ map block_area (earlier kept p))) l

-- a packet is apart from an area in both crates' words
apart_is : (packet first : ℕ) (area : Area) → 0 < packet → area_apart packet first area ≡ is_apart (record { start = first; count = packet }) (area_seen area)
unfolding area_apart is_apart
apart_is packet first area some = grind (arith, nat_tests)

all_apart : (packet first : ℕ) (areas : List Area) → 0 < packet
    → list_all (area_apart packet first) areas ≡ list_all (is_apart (record { start = first; count = packet })) (map area_seen areas)
all_apart packet first [] some = refl
all_apart packet first (area ∷ areas) some =
    ap (λ b. b && list_all (area_apart packet first) areas) (apart_is packet first area some)
    ∙ ap (λ b. is_apart (record { start = first; count = packet }) (area_seen area) && b) (all_apart packet first areas some)

free_is : (packet first blocks : ℕ) (areas : List Area) → 0 < packet
    → is_free packet areas blocks first ≡ is_packet blocks (map area_seen areas) (record { start = first; count = packet })
unfolding is_free is_packet is_inside
free_is packet first blocks areas some = ap (λ b. nat_le (first + packet) blocks && (nat_lt 128 first && b)) (all_apart packet first areas some)

all_free : (packet blocks : ℕ) (areas : List Area) (pairs : List (ℕ × ℕ)) → 0 < packet
    → list_all (λ pair. is_free packet areas blocks pair.1) pairs ≡ list_all (is_packet blocks (map area_seen areas)) (map (packet_of packet) pairs)
all_free packet blocks areas [] some = refl
all_free packet blocks areas (pair ∷ pairs) some =
    ap (λ b. b && list_all (λ pair. is_free packet areas blocks pair.1) pairs) (free_is packet pair.1 blocks areas some)
    ∙ ap (λ b. is_packet blocks (map area_seen areas) (packet_of packet pair) && b) (all_free packet blocks areas pairs some)

pair_apart : (packet first : ℕ) (pair : ℕ × ℕ) → 0 < packet → packet_apart packet first pair ≡ is_apart (record { start = first; count = packet }) (packet_of packet pair)
unfolding packet_apart is_apart
pair_apart packet first pair some = grind (arith, nat_tests)

each_apart : (packet first : ℕ) (pairs : List (ℕ × ℕ)) → 0 < packet
    → list_all (packet_apart packet first) pairs ≡ list_all (is_apart (record { start = first; count = packet })) (map (packet_of packet) pairs)
each_apart packet first [] some = refl
each_apart packet first (pair ∷ pairs) some =
    ap (λ b. b && list_all (packet_apart packet first) pairs) (pair_apart packet first pair some)
    ∙ ap (λ b. is_apart (record { start = first; count = packet }) (packet_of packet pair) && b) (each_apart packet first pairs some)

pairs_apart : (packet : ℕ) (pairs : List (ℕ × ℕ)) → 0 < packet → packets_apart packet pairs ≡ are_apart (map (packet_of packet) pairs)
unfolding packets_apart are_apart
pairs_apart packet [] some = refl
pairs_apart packet (pair ∷ pairs) some =
    ap (λ b. b && packets_apart packet pairs) (each_apart packet pair.1 pairs some)
    ∙ ap (λ b. list_all (is_apart (packet_of packet pair)) (map (packet_of packet) pairs) && b) (pairs_apart packet pairs some)

-- a table is lawful over the areas and the anchors where its packets are
pub lawful_is : (table : Table) (blocks kept : ℕ) (areas : List Area) (stated : List model.Area) → 0 < table.packet
    → map area_seen areas ≡ stated ++ anchor_areas blocks kept
    → is_lawful table.packet table.pairs areas blocks ≡ are_packets blocks kept stated (packets_of table)
unfolding is_lawful are_packets packets_of
lawful_is table blocks kept areas stated some is =
    ap (λ b. b && packets_apart table.packet table.pairs) (all_free table.packet blocks areas table.pairs some)
    ∙ ap (λ b. list_all (is_packet blocks (map area_seen areas)) (map (packet_of table.packet) table.pairs) && b) (pairs_apart table.packet table.pairs some)
    ∙ ap (λ l. list_all (is_packet blocks l) (map (packet_of table.packet) table.pairs) && are_apart (map (packet_of table.packet) table.pairs)) is

-- a map of a volume that lies as it must is one whose tables can be read
every : (p : model.Area → Bool) (f : ℕ → model.Area) (a n i : ℕ) → list_all p (map f (range_with_len a n)) ≡ true → a ≤ i → i < a + n → p (f i) ≡ true
every p f a zero i e low high = absurd (omega arith)
every p f a (suc n) i e low high =
    let t = and_parts (p (f a)) (list_all p (map f (range_with_len (a + 1) n))) e in
    elim (cases_lt a i) [
      | inl less ↦ every p f (a + 1) n i t.1 (omega arith) (omega arith)
      | inr more ↦ (let same : a ≡ i = omega arith in sym (ap (λ k. p (f k)) same) ∙ t.0)
    ]

module _ (volume : Volume) (m : SparingMap) (is : volume.shape.sparing ≡ Some m) where
  lawful_map : IsBounded volume.size volume.blocks volume → is_sparing_lawful (map_seen m) ≡ true
  lawful_map bounded = sym (ap (λ o. is_base_lawful (option_map map_seen o)) is) ∙ bounded.spared

  inside_by : IsLaidOut volume → list_all (is_inside volume.blocks) (tables_by volume.size (Some (map_seen m))) ≡ true
  unfolding areas_laid
  inside_by laid =
      let all = (and_parts (list_all (is_inside volume.blocks) (areas_stated volume)) _ laid.areas).0 in
      let rest = (and_parts (is_inside volume.blocks (area_stated volume.size volume.reserve)) _ (and_parts (is_inside volume.blocks (area_stated volume.size volume.main)) _ all).1).1 in
      let behind = and_parts (list_all (is_inside volume.blocks) (integrity_stated volume)) _
      (sym (list_all-append (is_inside volume.blocks) (integrity_stated volume) (partition_stated volume ∷ tables_stated volume)) ∙ rest) in
      let tables = (and_parts (is_inside volume.blocks (partition_stated volume)) _ behind.1).1 in
      sym (ap (λ o. list_all (is_inside volume.blocks) (tables_by volume.size (option_map map_seen o))) is) ∙ tables

  lies : (files : Files) → IsOver volume files → IsLaidOut volume → (i : ℕ) → i < m.count → m.count ≤ 4
      → slice_index m.at i * volume.size + area_bytes volume.size m.bytes ≤ files.image.size
  unfolding area_bytes blocks_for is_inside
  lies files over laid i h few =
      let at = slice_index m.at i in
      let blocks = blocks_for volume.size m.bytes in
      let inside : nat_le (at + blocks) volume.blocks ≡ true =
      every (is_inside volume.blocks) (λ k. record { start = slice_index m.at k; count = blocks_for volume.size m.bytes }) 0 (min m.count 4) i
      (sym (ap (list_all (is_inside volume.blocks)) (map-map (λ n. record { start = n; count = blocks_for volume.size m.bytes }) (slice_index m.at) (range_with_len 0 (min m.count 4)))) ∙ inside_by laid)
      (omega arith) (omega arith) in
      let fits : (at + blocks) * volume.size ≤ volume.blocks * volume.size = mul-le-mul_right volume.size (leb-true _ _ inside) in
      let within : volume.blocks * volume.size ≤ files.image.size = over.within in
      omega (arith, fits, within)

  pub has_map : (files : Files) → IsOver volume files → IsLaidOut volume → IsTableMap volume.size files.image.size m
  unfolding is_sparing_lawful
  has_map files over laid =
      let a = and_parts (nat_le 1 m.packet) _ (lawful_map over.bounded) in
      let b = and_parts (nat_le 1 m.count) _ a.1 in
      let c = and_parts (nat_le m.count 4) (nat_le 56 m.bytes) b.1 in
      record {
        packet = (let h : 1 ≤ m.packet = leb-true _ _ a.0 in omega (arith, h));
        few = leb-true _ _ c.0;
        some = leb-true _ _ c.1;
        within = λ i h. lies files over laid i h (leb-true _ _ c.0);
      }

-- the table of the volume, by what was read
module _ (volume : Volume) (disk : ℕ → List ℕ) (m : SparingMap) (is : volume.shape.sparing ≡ Some m) where
  seen : sparing_seen volume ≡ Some (map_seen m)
  seen = ap (option_map map_seen) is

  spared_by : is_spared_stated volume disk ≡ (is_some (prevailing_area volume.size disk (map_seen m))
      && are_packets volume.blocks volume.anchor (areas_stated volume) (packets_of (table_or_none (table_stated volume.size disk (map_seen m) volume.length))))
  unfolding is_spared_stated
  spared_by =
      ap (λ s. has_table_by volume.size disk s && are_packets volume.blocks volume.anchor (areas_stated volume) (packets_of (used_by volume.size disk volume.length s))) seen

  none_prevails : (area : Option (List ℕ)) → option_map (used_of m.packet volume.length) area ≡ None → is_some area ≡ false
  none_prevails None e = refl
  none_prevails (Some area) e = absurd (cc)

  some_prevails : (table : Table) (area : Option (List ℕ)) → Some table ≡ option_map (used_of m.packet volume.length) area → is_some area ≡ true
  some_prevails table None e = absurd (cc)
  some_prevails table (Some area) e = refl

  pub unprevailing : table_stated volume.size disk (map_seen m) volume.length ≡ None → is_spared_stated volume disk ≡ false
  unfolding table_stated
  unprevailing e =
      spared_by
      ∙ ap (λ b. b && are_packets volume.blocks volume.anchor (areas_stated volume) (packets_of (table_or_none (table_stated volume.size disk (map_seen m) volume.length))))
      (none_prevails (prevailing_area volume.size disk (map_seen m)) e)

  module _ (table : Table) (found : Some table ≡ table_stated volume.size disk (map_seen m) volume.length) where
    pub used : table ≡ table_used volume disk
    used = ap table_or_none found ∙ sym (ap (used_by volume.size disk volume.length) seen)

    pub lawful_as : (areas : List Area) (lawful : Bool) → 0 < table.packet → map area_seen areas ≡ areas_stated volume ++ anchor_areas volume.blocks volume.anchor
        → lawful ≡ is_lawful table.packet table.pairs areas volume.blocks → is_spared_stated volume disk ≡ lawful
    unfolding table_stated
    lawful_as areas lawful some seen_as e =
        spared_by
        ∙ ap (λ b. b && are_packets volume.blocks volume.anchor (areas_stated volume) (packets_of (table_or_none (table_stated volume.size disk (map_seen m) volume.length))))
        (some_prevails table (prevailing_area volume.size disk (map_seen m)) found)
        ∙ ap (λ t. are_packets volume.blocks volume.anchor (areas_stated volume) (packets_of (table_or_none t))) (sym found)
        ∙ sym (lawful_is table volume.blocks volume.anchor areas (areas_stated volume) some seen_as)
        ∙ sym e

-- the layout of a volume that is not sparable
module _ (volume : Volume) (areas : List Area) (none : volume.shape.sparing ≡ None) (seen_as : map area_seen areas ≡ areas_stated volume) where
  unused : sparing_seen volume ≡ None
  unused = ap (option_map map_seen) none

  pub physical_spared : (disk : ℕ → List ℕ) → is_spared_stated volume disk ≡ true
  unfolding is_spared_stated are_packets packets_of are_apart
  physical_spared disk =
      ap (λ s. has_table_by volume.size disk s && are_packets volume.blocks volume.anchor (areas_stated volume) (packets_of (used_by volume.size disk volume.length s))) unused

  pub physical_layout : (disk : ℕ → List ℕ) → record { areas = map area_seen areas; table = no_table } ≡ layout_stated volume disk
  physical_layout disk =
      ap (λ l. record { areas = l; table = no_table }) seen_as
      ∙ sym (ap (λ s. record { areas = areas_stated volume; table = used_by volume.size disk volume.length s }) unused)

pub none_packed : (blocks kept : ℕ) (areas : List model.Area) → are_packets blocks kept areas (packets_of no_table) ≡ true
unfolding are_packets packets_of are_apart
none_packed blocks kept areas = refl

-- that of a sparable one
pub sparable_layout : (volume : Volume) (disk : ℕ → List ℕ) (areas : List Area) (table : Table) → map area_seen areas ≡ areas_stated volume
    → table ≡ table_used volume disk → record { areas = map area_seen areas; table = table } ≡ layout_stated volume disk
sparable_layout volume disk areas table a t =
    ap (λ l. record { areas = l; table = table }) a ∙ ap (λ x. record { areas = areas_stated volume; table = x }) t
