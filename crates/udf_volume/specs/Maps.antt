-- Partition maps of the code, and the shapes that they make, as the definitions have them.
use Rattle.std.specs.Prelude.{ℕ, Bool, true, false, List, [], ◌∷◌, Option, Some, None, option_map, slice_index}
use Rattle.udf_model.specs.Bytes.{number_at}
use Rattle.udf_volume_model.specs.Maps as model
use Rattle.udf_layer.specs.Tables.{map_seen}
use Rattle.udf_layer.specs.declared.maps.SparingMap.{SparingMap}
use Rattle.udf_volume.specs.declared.maps.MapKind.{MapKind}
use Rattle.udf_volume.specs.declared.maps.MapKind.TheVariants as kind
use Rattle.udf_volume.specs.declared.volume.Upper.{Upper}
use Rattle.udf_volume.specs.declared.volume.Upper.TheVariants as upper
use Rattle.udf_volume.specs.declared.volume.Shape.{Shape}

abbrev pub kind_seen : MapKind → model.MapKind
kind_seen kind.Physical = model.Physical
kind_seen (kind.Sparable map) = model.Sparable (map_seen map)
kind_seen (kind.Metadata map) = model.Metadata
kind_seen kind.Virtual = model.Virtual

abbrev pub kind_of : Option model.PartitionMap → Option model.MapKind
kind_of None = None
kind_of (Some map) = Some map.kind

abbrev pub upper_seen : Upper → model.Upper
upper_seen upper.Absent = model.Absent
upper_seen (upper.Metadata map) = model.OverMetadata
upper_seen upper.Virtual = model.OverVirtual

-- the shape whose maps have this partition number
abbrev pub shape_seen : List ℕ → Shape → model.Shape
shape_seen number shape = record {
  base = shape.base;
  number = number;
  sparing = option_map map_seen shape.sparing;
  upper = upper_seen shape.upper;
}

-- a sparable map of the code, by the bytes of the map (UDF 2.50 2.2.9)
abbrev pub sparing_in : List ℕ → SparingMap
sparing_in table = record {
  packet = number_at 2 table 40;
  count = slice_index table 42;
  bytes = number_at 4 table 44;
  at = number_at 4 table 48 ∷ number_at 4 table 52 ∷ number_at 4 table 56 ∷ number_at 4 table 60 ∷ [];
}

abbrev pub is_sparable : Option MapKind → Bool
is_sparable (Some (kind.Sparable map)) = true
is_sparable (Some kind.Physical) = false
is_sparable (Some (kind.Metadata map)) = false
is_sparable (Some kind.Virtual) = false
is_sparable None = false

abbrev pub sparing_of : Option model.MapKind → List ℕ → Option SparingMap
sparing_of (Some (model.Sparable map)) table = Some (sparing_in table)
sparing_of (Some model.Physical) table = None
sparing_of (Some model.Metadata) table = None
sparing_of (Some model.Virtual) table = None
sparing_of None table = None

-- what the first map of a logical volume descriptor says of sparing
unfoldable pub sparing_stated : List ℕ → Option SparingMap
sparing_stated body = sparing_of (kind_of (model.first_map body)) (model.map_table body)
