-- The lawful layout of a volume, and the lawful packets of its sparing table.
use Rattle.std.specs.Prelude.{ℕ, Bool, true, ◌==◌, ◌&&◌, ◌||◌, ◌+◌, ◌/◌, ◌%◌, ◌^◌, nat_lt, nat_le, if◌then◌else◌, Option, Some, None, List, [], ◌∷◌, ◌++◌, map, is_none, is_some}
use Rattle.std.specs.List.{list_all}
use Rattle.udf_volume_model.specs.Sequence.{Descriptor}
use Rattle.udf_volume_model.specs.Prevailing.{number_in}
use Rattle.udf_volume_model.specs.Anchor.{blocks_for, places, anchor_in}
use Rattle.udf_volume_model.specs.Kept.{KeptSequence}
use Rattle.udf_volume_model.specs.Stated.{partition, sparing}
use Rattle.udf_volume_model.specs.Areas.{Area, Layout, partition_area, table_areas, areas_of, is_outside, layout_of, packets_of}
use Rattle.udf_volume_model.specs.Maps.{SparingMap}
use Rattle.udf_volume_model.specs.SparingTable.{prevailing_area}

-- An area of no blocks is apart from every other.
unfoldable pub is_apart : Area → Area → Bool
is_apart a b =
    (a.count == 0) || ((b.count == 0) || (nat_le (a.start + a.count) b.start || nat_le (b.start + b.count) a.start))

-- pairwise apart
unfoldable pub are_apart : List Area → Bool
are_apart [] = true
are_apart (area ∷ areas) = list_all (is_apart area) areas && are_apart areas

-- in an image of so many blocks, also where it has no blocks
unfoldable pub is_inside : ℕ → Area → Bool
is_inside blocks area = nat_le (area.start + area.count) blocks

-- An extent of so many bytes from a block of a partition on lies in the partition, of so many blocks, and holds its space
-- bitmap (4/14.12): 24 bytes, and a bit for each block.
unfoldable pub is_bitmap : ℕ → ℕ → ℕ → ℕ → Bool
is_bitmap size count bytes block = nat_le (block + blocks_for size bytes) count && nat_le (24 + (count + 7) / 8) bytes

-- 4/14.3.2: the short allocation descriptor at 64 of the partition descriptor; its extent of length 0 is none
unfoldable pub bitmap_bytes : List Descriptor → ℕ
bitmap_bytes list = number_in 4 (partition list) 64 % 2 ^ 30

unfoldable pub is_bitmap_lawful : ℕ → List Descriptor → Bool
is_bitmap_lawful size list =
    (bitmap_bytes list == 0)
    || is_bitmap size (partition_area list).count (bitmap_bytes list) (number_in 4 (partition list) 68)

-- the partition and the sparing tables start above block 128
unfoldable pub are_high : ℕ → List Descriptor → Bool
are_high size list =
    nat_lt 128 (partition_area list).start && list_all (λ area. nat_lt 128 area.start) (table_areas size list)

-- The areas lie in the image and are pairwise apart, the partition and the tables start high, and the bitmap is lawful.
unfoldable pub are_lawful : ℕ → ℕ → List Descriptor → List Area → Bool
are_lawful size blocks list areas =
    list_all (is_inside blocks) areas
    && (are_apart areas && (are_high size list && is_bitmap_lawful size list))

-- the places before one
unfoldable pub earlier : ℕ → List ℕ → List ℕ
earlier at [] = []
earlier at (place ∷ rest) = if place == at then [] else place ∷ earlier at rest

-- The kept anchor lies in none of the areas, and each place before it neither lies in one nor holds a whole anchor.
unfoldable pub is_passed : ℕ → ℕ → (ℕ → List ℕ) → List Area → ℕ → Bool
is_passed size blocks disk areas place = is_outside areas place && is_none (anchor_in size blocks place (disk place))

unfoldable pub are_places_lawful : ℕ → ℕ → (ℕ → List ℕ) → ℕ → List Area → Bool
are_places_lawful size blocks disk kept areas =
    is_outside areas kept && list_all (is_passed size blocks disk areas) (earlier kept (places blocks))

unfoldable pub is_lawful : ℕ → ℕ → (ℕ → List ℕ) → KeptSequence → Bool
is_lawful size blocks disk sequence =
    are_lawful size blocks sequence.list (areas_of size sequence.anchor sequence.list)
    && are_places_lawful size blocks disk sequence.place (areas_of size sequence.anchor sequence.list)

-- the kept anchor and the places before it, as areas of one block
unfoldable pub anchor_areas : ℕ → ℕ → List Area
anchor_areas blocks kept = map (λ place. record { start = place; count = 1 }) (kept ∷ earlier kept (places blocks))

-- a used packet lies in the image, starts above block 128, and is apart from some areas (UDF 2.50 2.2.12)
unfoldable pub is_packet : ℕ → List Area → Area → Bool
is_packet blocks others packet =
    is_inside blocks packet && (nat_lt 128 packet.start && list_all (is_apart packet) others)

-- each used packet is one apart from the areas, the kept anchor and the places before it, and they are pairwise apart
unfoldable pub are_packets : ℕ → ℕ → List Area → List Area → Bool
are_packets blocks kept areas packets =
    list_all (is_packet blocks (areas ++ anchor_areas blocks kept)) packets && are_apart packets

abbrev pub has_table_by : ℕ → (ℕ → List ℕ) → Option SparingMap → Bool
has_table_by size disk None = true
has_table_by size disk (Some sparing) = is_some (prevailing_area size disk sparing)

-- some listed sparing table is whole, where a map lists any
unfoldable pub has_table : ℕ → (ℕ → List ℕ) → List Descriptor → Bool
has_table size disk list = has_table_by size disk (sparing list)

abbrev pub are_packets_of : ℕ → ℕ → Layout → Bool
are_packets_of blocks kept layout = are_packets blocks kept layout.areas (packets_of layout.table)

-- a sparing table prevails, where there is to be one, and its used packets are lawful
unfoldable pub is_spared : ℕ → ℕ → (ℕ → List ℕ) → KeptSequence → Bool
is_spared size blocks disk sequence =
    has_table size disk sequence.list
    && are_packets_of blocks sequence.place (layout_of size disk sequence.anchor sequence.list)
