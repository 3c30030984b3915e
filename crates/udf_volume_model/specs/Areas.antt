-- The areas of a volume: the extents of its sequences and of its integrity sequence, its base partition and its sparing tables;
-- and the packets to which its prevailing sparing table maps.
use Rattle.std.specs.Prelude.{ℕ, Bool, not, ◌==◌, ◌&&◌, ◌+◌, nat_lt, nat_le, if◌then◌else◌, Option, Some, None, List, [], ◌∷◌, ◌++◌, map}
use Rattle.std.specs.List.{list_all}
use Rattle.udf_volume_model.specs.Sequence.{Descriptor}
use Rattle.udf_volume_model.specs.Prevailing.{number_in}
use Rattle.udf_volume_model.specs.Anchor.{Extent, Anchor, blocks_for, blocks_of}
use Rattle.udf_volume_model.specs.Stated.{logical, partition, sparing}
use Rattle.udf_volume_model.specs.Maps.{SparingMap}
use Rattle.udf_volume_model.specs.SparingTable.{Table, table_stated}

pub record Area : Type 0 where
  pub start : ℕ
  pub count : ℕ

abbrev pub area_of : ℕ → Extent → Area
area_of size extent = record { start = extent.start; count = blocks_of size extent }

-- the extent of the integrity sequence (3/10.6.12)
unfoldable pub integrity_extent : List Descriptor → Extent
integrity_extent list = record { bytes = number_in 4 (logical list) 432; start = number_in 4 (logical list) 436 }

unfoldable pub integrity_areas : ℕ → List Descriptor → List Area
integrity_areas size list = if (integrity_extent list).bytes == 0 then [] else area_of size (integrity_extent list) ∷ []

-- 3/10.5.8, 3/10.5.9
unfoldable pub partition_area : List Descriptor → Area
partition_area list = record { start = number_in 4 (partition list) 188; count = number_in 4 (partition list) 192 }

-- the areas of the sparing tables that a map lists (UDF 2.50 2.2.9)
abbrev pub tables_by : ℕ → Option SparingMap → List Area
tables_by size None = []
tables_by size (Some sparing) = map (λ at. record { start = at; count = blocks_for size sparing.bytes }) sparing.tables

unfoldable pub table_areas : ℕ → List Descriptor → List Area
table_areas size list = tables_by size (sparing list)

unfoldable pub areas_of : ℕ → Anchor → List Descriptor → List Area
areas_of size anchor list =
    area_of size anchor.main ∷ area_of size anchor.reserve ∷ (integrity_areas size list ++ (partition_area list ∷ table_areas size list))

unfoldable pub covers : Area → ℕ → Bool
covers area n = nat_le area.start n && nat_lt n (area.start + area.count)

-- the sector lies in none of these areas
unfoldable pub is_outside : List Area → ℕ → Bool
is_outside areas n = list_all (λ area. not (covers area n)) areas

-- no sparing table is used, as in a physical partition
abbrev pub no_table : Table
no_table = record { packet = 0; pairs = [] }

abbrev pub table_or_none : Option Table → Table
table_or_none None = no_table
table_or_none (Some table) = table

abbrev pub used_by : ℕ → (ℕ → List ℕ) → ℕ → Option SparingMap → Table
used_by size disk blocks None = no_table
used_by size disk blocks (Some sparing) = table_or_none (table_stated size disk sparing blocks)

-- the sparing table as it is used, where one prevails
unfoldable pub used_table : ℕ → (ℕ → List ℕ) → List Descriptor → Table
used_table size disk list = used_by size disk (partition_area list).count (sparing list)

-- What a volume takes of its image: its areas, and its sparing table, whose packets are taken too. It is computed once, and
-- handed to all that asks where something lies.
pub record Layout : Type 0 where
  pub areas : List Area
  pub table : Table

unfoldable pub layout_of : ℕ → (ℕ → List ℕ) → Anchor → List Descriptor → Layout
layout_of size disk anchor list = record { areas = areas_of size anchor list; table = used_table size disk list }

-- the used packets
unfoldable pub packets_of : Table → List Area
packets_of table = map (λ pair. record { start = pair.1; count = table.packet }) table.pairs

-- the areas and the used packets
unfoldable pub taken : Layout → List Area
taken layout = layout.areas ++ packets_of layout.table
