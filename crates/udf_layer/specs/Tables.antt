-- Sparing tables of the code, as the definitions have them.
use Rattle.std.specs.Prelude.{ℕ, ◌+◌, ◌*◌, ◌-◌, ◌/◌, map, min, slice_index}
use Rattle.std.specs.List.{range_with_len}
use Rattle.udf_volume_model.specs.Maps as model
use Rattle.udf_layer.specs.declared.maps.SparingMap.{SparingMap}

-- the bytes of the blocks that so many bytes take, which make the area of a table's tag
unfoldable pub area_bytes : ℕ → ℕ → ℕ
area_bytes size bytes = (bytes + (size - 1)) / size * size

-- a map, with the tables that it lists
abbrev pub map_seen : SparingMap → model.SparingMap
map_seen m = record {
  packet = m.packet;
  count = m.count;
  bytes = m.bytes;
  tables = map (slice_index m.at) (range_with_len 0 (min m.count 4));
}
