-- Areas of the code, those of a volume by its fields, and what a volume takes of its image.
use Rattle.std.specs.Prelude.{ℕ, ◌==◌, if◌then◌else◌, Option, List, [], ◌∷◌, ◌++◌, map, option_map}
use Rattle.udf_volume_model.specs.Anchor.{Anchor, blocks_for}
use Rattle.udf_volume_model.specs.Areas as model
use Rattle.udf_volume_model.specs.Areas.{tables_by, table_or_none, used_by}
use Rattle.udf_volume_model.specs.Maps.{SparingMap}
use Rattle.udf_volume_model.specs.SparingTable.{Table}
use Rattle.udf_field.specs.declared.address.Span.{Span}
use Rattle.udf_volume.specs.Seen.{extent_seen}
use Rattle.udf_layer.specs.Tables.{map_seen}
use Rattle.udf_layer.specs.declared.area.Area.{Area}
use Rattle.udf_volume.specs.declared.taken.Layout.{Layout}
use Rattle.udf_volume.specs.declared.volume.Volume.{Volume}

abbrev pub area_seen : Area → model.Area
area_seen area = record { start = area.start; count = area.blocks }

-- so many blocks from a sector on
abbrev pub area_with : ℕ → ℕ → model.Area
area_with blocks sector = record { start = sector; count = blocks }

-- a sector as an area of one block
abbrev pub block_area : ℕ → model.Area
block_area sector = area_with 1 sector

abbrev pub area_stated : ℕ → Span → model.Area
area_stated size span = record { start = span.start; count = blocks_for size span.length }

abbrev pub integrity_stated : Volume → List model.Area
integrity_stated volume = if volume.integrity.length == 0 then [] else area_stated volume.size volume.integrity ∷ []

-- what the base map says of sparing
abbrev pub sparing_seen : Volume → Option SparingMap
sparing_seen volume = option_map map_seen volume.shape.sparing

abbrev pub tables_stated : Volume → List model.Area
tables_stated volume = tables_by volume.size (sparing_seen volume)

abbrev pub partition_stated : Volume → model.Area
partition_stated volume = record { start = volume.start; count = volume.length }

abbrev pub areas_stated : Volume → List model.Area
areas_stated volume =
    area_stated volume.size volume.main ∷ area_stated volume.size volume.reserve
    ∷ (integrity_stated volume ++ (partition_stated volume ∷ tables_stated volume))

-- the areas but for the sparing tables
abbrev pub areas_before_tables : Volume → List model.Area
areas_before_tables volume =
    area_stated volume.size volume.main ∷ area_stated volume.size volume.reserve
    ∷ (integrity_stated volume ++ (partition_stated volume ∷ []))

-- the sparing table as it is used
abbrev pub table_used : Volume → (ℕ → List ℕ) → Table
table_used volume disk = used_by volume.size disk volume.length (sparing_seen volume)

abbrev pub layout_stated : Volume → (ℕ → List ℕ) → model.Layout
layout_stated volume disk = record { areas = areas_stated volume; table = table_used volume disk }

abbrev pub layout_seen : Layout → model.Layout
layout_seen layout = record { areas = map area_seen layout.areas.items; table = table_or_none layout.table }

abbrev pub anchor_stated : Volume → Anchor
anchor_stated volume = record { main = extent_seen volume.main; reserve = extent_seen volume.reserve }
