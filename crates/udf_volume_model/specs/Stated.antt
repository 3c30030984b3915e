-- What the prevailing descriptors of a sequence state. Offsets are those in the descriptor, from its tag's first byte.
use Rattle.std.specs.Prelude.{ℕ, Bool, true, false, Option, Some, None, ◌&&◌, List, [], ◌++◌, replicate, codes, is_some}
use Rattle.udf_volume_model.specs.Sequence.{Descriptor}
use Rattle.udf_volume_model.specs.Prevailing.{prevailing}
use Rattle.udf_volume_model.specs.Maps.{SparingMap, PartitionMap, Upper, Absent, OverMetadata, OverVirtual, Shape, first_map, shape_of, is_base_lawful}

abbrev pub number_by : Option PartitionMap → List ℕ
number_by None = []
number_by (Some first) = first.number

abbrev pub is_built_over : Upper → Bool
is_built_over Absent = true
is_built_over OverMetadata = false
is_built_over OverVirtual = false

abbrev pub body_of : Option Descriptor → List ℕ
body_of None = []
body_of (Some descriptor) = descriptor.body

-- the prevailing logical volume descriptor (3/10.6)
unfoldable pub logical : List Descriptor → List ℕ
logical list = body_of (prevailing 6 [] list)

-- the shape that its maps make
abbrev pub shape : List Descriptor → Option Shape
shape list = shape_of (logical list)

-- the partition number of its first map, as its two bytes
unfoldable pub partition_number : List ℕ → List ℕ
partition_number body = number_by (first_map body)

-- the prevailing partition descriptor with that number (3/10.5)
abbrev pub mapped_partition : List Descriptor → Option Descriptor
mapped_partition list = prevailing 5 (partition_number (logical list)) list

unfoldable pub partition : List Descriptor → List ℕ
partition list = body_of (mapped_partition list)

-- what the base map says of sparing
abbrev pub sparing_by : Option Shape → Option SparingMap
sparing_by None = None
sparing_by (Some shape) = shape.sparing

unfoldable pub sparing : List Descriptor → Option SparingMap
sparing list = sparing_by (shape_of (logical list))

abbrev pub is_lawful_shape : Option Shape → Bool
is_lawful_shape None = false
is_lawful_shape (Some shape) = is_base_lawful shape.sparing

-- the maps make a shape, their partition is described, and sparing is lawful
unfoldable pub has_maps : List Descriptor → Bool
has_maps list = is_lawful_shape (shape_of (logical list)) && is_some (mapped_partition list)

abbrev pub is_built_shape : Option Shape → Bool
is_built_shape None = false
is_built_shape (Some shape) = is_built_over shape.upper

-- one physical or sparable partition: no metadata and no virtual partition over it
unfoldable pub is_built : List Descriptor → Bool
is_built list = is_built_shape (shape_of (logical list))

-- the identifier of the implementation use descriptor with the volume's names (UDF 2.2.7), padded with zeros
unfoldable pub volume_information : List ℕ
volume_information = codes "*UDF LV Info" ++ replicate 11 0
