-- Where the blocks of a volume's partition stand.
use Rattle.std.proofs.Common.{◌≡◌, ℕ, ◌+◌, ◌%◌, ◌≤◌, ◌<◌, ◌^◌, List, [], ◌∷◌, ◌++◌, map, Bool, true, false, cond, Option, Some, None, refl, ap, ◌∙◌, arith}
use Rattle.std.specs.Prelude.{Contains, nat_lt, ◌==◌}
use Rattle.std.specs.List.{list_all, find}
use Rattle.std.proofs.Math.Nat.{mod-lt}
use Rattle.std.proofs.lemmas.Bool.{and_parts}
use Rattle.std.proofs.lemmas.Bool.Decides.{nat_tests}
use Rattle.udf_field.specs.declared.address.Addr.{Addr}
use Rattle.udf_file_model.specs.Address.{lone_places}
use Rattle.udf_file_model.specs.Place.{Place, moved_to, or_else, packet_start, physical_place, spared_to, sparable_place}
use Rattle.udf_layer.specs.Packets.{AreSpare}
use Rattle.udf_layer.specs.Physicals.{physical_is}
use Rattle.udf_layer.specs.Lone.{lone_is}
use Rattle.udf_layer.specs.declared.area.Area as layer
use Rattle.udf_layer.proofs.Spare.{lawful_spare}
use Rattle.udf_volume_model.specs.Areas.{Area, packets_of, no_table}
use Rattle.udf_volume_model.specs.Layout.{anchor_areas, are_packets, is_inside, is_packet}
use Rattle.udf_volume_model.specs.SparingTable.{Table}
use Rattle.udf_volume.proofs.Packets.{lawful_is}
use Rattle.udf_volume.specs.Areas.{area_seen, area_stated, areas_stated, partition_stated, tables_stated}
use Rattle.udf_volume.specs.Laid.{IsLaidOut, areas_laid}
use Rattle.udf_volume.specs.declared.volume.Volume.{Volume}
use Rattle.udf_rules_model.specs.Places.{place_by}

abbrev area_of : Area → layer.Area
area_of area = record { start = area.start; blocks = area.count }

seen_again : (xs : List Area) → map area_seen (map area_of xs) ≡ xs
seen_again [] = refl
seen_again (x ∷ xs) = ap (λ (l : List Area). x ∷ l) (seen_again xs)

has_partition : (volume : Volume) (others : List Area) → Contains (map area_of (areas_stated volume ++ others)) (area_of (partition_stated volume))
has_partition volume others = by (volume.integrity.length == 0)
  where
    by : (b : Bool) → Contains (map area_of ((area_stated volume.size volume.main ∷ area_stated volume.size volume.reserve
        ∷ (cond b [] (area_stated volume.size volume.integrity ∷ []) ++ (partition_stated volume ∷ tables_stated volume))) ++ others)) (area_of (partition_stated volume))
    by true = (2, omega arith, refl)
    by false = (3, omega arith, refl)

-- the used packets of a volume are spare over its partition
pub spare_there : (volume : Volume) (table : Table) → volume.blocks < 2 ^ 32 → 0 < table.packet
    → are_packets volume.blocks volume.anchor (areas_stated volume) (packets_of table) ≡ true → AreSpare table.packet table.pairs (physical_place volume.start volume.length)
spare_there volume table few some packets =
    let all : List Area = areas_stated volume ++ anchor_areas volume.blocks volume.anchor in
    lawful_spare table.packet (map area_of all) volume.blocks table.pairs (area_of (partition_stated volume)) few (has_partition volume (anchor_areas volume.blocks volume.anchor))
    (lawful_is table volume.blocks volume.anchor (map area_of all) (areas_stated volume) some (seen_again all) ∙ packets)

inside_is : (blocks : ℕ) (area : Area) → is_inside blocks area ≡ true → area.start + area.count ≤ blocks
unfolding is_inside
inside_is blocks area h = grind (arith, nat_tests)

-- the partition lies in the image
pub partition_inside : (volume : Volume) → IsLaidOut volume → volume.start + volume.length ≤ volume.blocks
unfolding areas_laid
partition_inside volume laid = by (volume.integrity.length == 0) (and_parts (list_all (is_inside volume.blocks) (areas_stated volume)) _ laid.areas).0
  where
    by : (b : Bool) → list_all (is_inside volume.blocks) (area_stated volume.size volume.main ∷ area_stated volume.size volume.reserve
        ∷ (cond b [] (area_stated volume.size volume.integrity ∷ []) ++ (partition_stated volume ∷ tables_stated volume))) ≡ true → volume.start + volume.length ≤ volume.blocks
    by true h =
        let a = and_parts (is_inside volume.blocks (area_stated volume.size volume.main)) _ h in
        let b = and_parts (is_inside volume.blocks (area_stated volume.size volume.reserve)) _ a.1 in
        inside_is volume.blocks (partition_stated volume) (and_parts (is_inside volume.blocks (partition_stated volume)) _ b.1).0
    by false h =
        let a = and_parts (is_inside volume.blocks (area_stated volume.size volume.main)) _ h in
        let b = and_parts (is_inside volume.blocks (area_stated volume.size volume.reserve)) _ a.1 in
        let c = and_parts (is_inside volume.blocks (area_stated volume.size volume.integrity)) _ b.1 in
        inside_is volume.blocks (partition_stated volume) (and_parts (is_inside volume.blocks (partition_stated volume)) _ c.1).0

-- a block without an entry stands as below
pub none_spared : (start count n : ℕ) → physical_place start count n ≡ place_by (record { start = start; count = count }) no_table n
unfolding sparable_place spared_to physical_place
none_spared start count n = by (nat_lt n count)
  where
    by : (b : Bool) → cond b (Some (start + n)) None ≡ cond b (or_else None (cond b (Some (start + n)) None)) None
    by true = refl
    by false = refl

-- a sector of a mapped packet lies in the image
mapped_inside : (packet blocks : ℕ) (others : List Area) (pairs : List (ℕ × ℕ)) (n s : ℕ) → 0 < packet
    → list_all (is_packet blocks others) (map (λ pair. record { start = pair.1; count = packet }) pairs) ≡ true → spared_to packet pairs n ≡ Some s → s < blocks
unfolding spared_to is_packet
mapped_inside packet blocks others [] n s some h e = absurd (cc)
mapped_inside packet blocks others (pair ∷ pairs) n s some h e =
    by (λ k. mapped_inside packet blocks others pairs n s some a.1 k) (pair.0 == packet_start packet n) e
  where
    a : (is_packet blocks others (record { start = pair.1; count = packet }) ≡ true) × (list_all (is_packet blocks others) (map (λ p. record { start = p.1; count = packet }) pairs) ≡ true)
    a = and_parts (is_packet blocks others (record { start = pair.1; count = packet })) _ h

    low : pair.1 + packet ≤ blocks
    low = inside_is blocks (record { start = pair.1; count = packet }) (and_parts (is_inside blocks (record { start = pair.1; count = packet })) _ a.0).0

    by : (moved_to (n % packet) (find (λ p. p.0 == packet_start packet n) pairs) ≡ Some s → s < blocks) → (b : Bool)
        → moved_to (n % packet) (cond b (Some pair) (find (λ p. p.0 == packet_start packet n) pairs)) ≡ Some s → s < blocks
    by rec true k = let m = mod-lt n some in let d = some_is (pair.1 + n % packet) s k in omega (arith, m, d, low)
      where
        some_is : (x y : ℕ) → Some x ≡ Some y → x ≡ y
        some_is x y i = cc
    by rec false k = rec k

-- ---- every place lies in the image
pub stands_inside : (volume : Volume) (table : Table) → IsLaidOut volume → 0 < table.packet → are_packets volume.blocks volume.anchor (areas_stated volume) (packets_of table) ≡ true
    → (n s : ℕ) → sparable_place table.packet table.pairs volume.length (physical_place volume.start volume.length) n ≡ Some s → s < volume.blocks
unfolding are_packets packets_of sparable_place
stands_inside volume table laid some packets n s h = by (nat_lt n volume.length) h
  where
    either : (o : Option ℕ) → spared_to table.packet table.pairs n ≡ o → or_else o (physical_place volume.start volume.length n) ≡ Some s → s < volume.blocks
    either None e k = let p = physical_is volume.start volume.length n s k in let i = partition_inside volume laid in omega (arith, p.0, p.1, i)
    either (Some x) e k =
        mapped_inside table.packet volume.blocks (areas_stated volume ++ anchor_areas volume.blocks volume.anchor) table.pairs n s some
        (and_parts (list_all (is_packet volume.blocks (areas_stated volume ++ anchor_areas volume.blocks volume.anchor)) (map (λ pair. record { start = pair.1; count = table.packet }) table.pairs)) _ packets).0 (e ∙ k)

    by : (b : Bool) → cond b (or_else (spared_to table.packet table.pairs n) (physical_place volume.start volume.length n)) None ≡ Some s → s < volume.blocks
    by true k = either (spared_to table.packet table.pairs n) refl k
    by false k = absurd (cc)

-- ---- the partition of blocks that follow one another
pub partition_low : (volume : Volume) → IsLaidOut volume → volume.blocks < 2 ^ 32 → volume.start + volume.length < 2 ^ 32
partition_low volume laid few = let i = partition_inside volume laid in omega (arith, i, few)

pub below_inside : (volume : Volume) (start count n s : ℕ) → IsLaidOut volume → start ≡ volume.start → count ≡ volume.length → physical_place start count n ≡ Some s → s < volume.blocks
below_inside volume start count n s laid i j h = let p = physical_is start count n s h in let k = partition_inside volume laid in omega (arith, p.0, p.1, i, j, k)

pub all_inside : (place : Place) (blocks : ℕ) → ((n s : ℕ) → place n ≡ Some s → s < blocks) → (a : Addr) (s : ℕ) → lone_places 0 place a ≡ Some s → s < blocks
all_inside place blocks h a s e = h a.block s (lone_is 0 place a s e).1

pub same_places : (p q : Place) → ((n : ℕ) → p n ≡ q n) → (a : Addr) → lone_places 0 p a ≡ lone_places 0 q a
unfolding lone_places
same_places p q h a = ap (λ (o : Option ℕ). cond (a.part == 0) o None) (h a.block)
