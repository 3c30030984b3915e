-- Partition maps (ECMA-167 3/10.7; UDF 2.50 2.2.8 to 2.2.10), and the shape of a volume that they make: a base partition, and
-- what stands over it. The bytes are those of a logical volume descriptor, offsets those from its tag's first byte.
use Rattle.std.specs.Prelude.{ℕ, Bool, true, ◌==◌, ◌&&◌, ◌+◌, ◌*◌, ◌-◌, nat_le, if◌then◌else◌, Option, Some, None, List, length, map, min, take, drop, slice_index, codes}
use Rattle.std.specs.List.{range_with_len}
use Rattle.std.specs.Str.{bytes_eq}
use Rattle.udf_model.specs.Bytes.{number_at}
use Rattle.udf_field.specs.FieldView.{entity_is}
use Rattle.udf_volume_model.specs.Prevailing.{number_in}

-- What a sparable map says (UDF 2.50 2.2.9): the blocks of a packet, the number of sparing tables, the bytes of one, and the
-- sectors of the tables, for which it has room for four.
pub record SparingMap : Type 0 where
  pub packet : ℕ
  pub count : ℕ
  pub bytes : ℕ
  pub tables : List ℕ

pub data MapKind : Type 0 where
  Physical : MapKind
  Sparable : SparingMap → MapKind
  Metadata : MapKind
  Virtual : MapKind

-- a map, with its partition number as its two bytes
pub record PartitionMap : Type 0 where
  pub kind : MapKind
  pub number : List ℕ

-- the map table: so many bytes from 440 on as the descriptor states at 264 (3/10.6.8, 3/10.6.13)
unfoldable pub map_table : List ℕ → List ℕ
map_table body = take (number_in 4 body 264) (drop (440 - 16) body)

-- 3/10.6.9
unfoldable pub map_count : List ℕ → ℕ
map_count body = number_in 4 body 268

-- the bytes of a map of type 1 (3/10.7.2) and of type 2 (3/10.7.3)
abbrev pub first_length : ℕ
first_length = 6

abbrev pub second_length : ℕ
second_length = 64

-- a map of this type and length begins some bytes, which hold all of it (3/10.7.1)
unfoldable pub begins : ℕ → ℕ → List ℕ → Bool
begins kind bytes table = nat_le bytes (length table) && ((slice_index table 0 == kind) && (slice_index table 1 == bytes))

-- a sparable map: the blocks of a packet at 40, the number of tables at 42, the bytes of one at 44, their sectors from 48 on
unfoldable pub sparing_map : List ℕ → SparingMap
sparing_map table = record {
  packet = number_at 2 table 40;
  count = slice_index table 42;
  bytes = number_at 4 table 44;
  tables = map (λ i. number_at 4 table (48 + 4 * i)) (range_with_len 0 (min (slice_index table 42) 4));
}

-- the kind of a map of type 2, where its entity at 4 has one of the known identifiers (UDF 2.50 2.2.8)
unfoldable pub second_kind : List ℕ → Option MapKind
second_kind table =
    if entity_is table 4 (codes "*UDF Sparable Partition") then Some (Sparable (sparing_map table))
    else if entity_is table 4 (codes "*UDF Metadata Partition") then Some Metadata
    else if entity_is table 4 (codes "*UDF Virtual Partition") then Some Virtual
    else None

abbrev pub numbered : List ℕ → Option MapKind → Option PartitionMap
numbered number None = None
numbered number (Some kind) = Some (record { kind = kind; number = number })

-- the map that begins some bytes; its partition number is at 4 (type 1) or at 38 (type 2)
unfoldable pub map_at : List ℕ → Option PartitionMap
map_at table =
    if begins 1 first_length table then Some (record { kind = Physical; number = take 2 (drop 4 table) })
    else if begins 2 second_length table then numbered (take 2 (drop 38 table)) (second_kind table)
    else None

-- what stands over the base partition
pub data Upper : Type 0 where
  Absent : Upper
  OverMetadata : Upper
  OverVirtual : Upper

-- the base partition: the reference and the partition number of its map, and what that says of sparing; and what is over it
pub record Shape : Type 0 where
  pub base : ℕ
  pub number : List ℕ
  pub sparing : Option SparingMap
  pub upper : Upper

-- what a base map says of sparing: a physical one nothing
abbrev pub base_of : MapKind → Option (Option SparingMap)
base_of Physical = Some None
base_of (Sparable sparing) = Some (Some sparing)
base_of Metadata = None
base_of Virtual = None

-- what a map makes over a base: a metadata partition over either, a virtual one over a physical base alone
abbrev pub upper_of : Option SparingMap → MapKind → Option Upper
upper_of sparing Metadata = Some OverMetadata
upper_of None Virtual = Some OverVirtual
upper_of (Some sparing) Virtual = None
upper_of sparing Physical = None
upper_of sparing (Sparable other) = None

abbrev pub with_upper : ℕ → List ℕ → Option SparingMap → Option Upper → Option Shape
with_upper base number sparing None = None
with_upper base number sparing (Some upper) = Some (record { base = base; number = number; sparing = sparing; upper = upper })

-- the shape of a base map under another
abbrev pub shape_under : ℕ → List ℕ → MapKind → Option (Option SparingMap) → Option Shape
shape_under base number upper None = None
shape_under base number upper (Some sparing) = with_upper base number sparing (upper_of sparing upper)

abbrev pub or_shape : Option Shape → Option Shape → Option Shape
or_shape None other = other
or_shape (Some shape) other = Some shape

-- one map is the base
abbrev pub shape_alone : List ℕ → Option (Option SparingMap) → Option Shape
shape_alone number None = None
shape_alone number (Some sparing) = with_upper 0 number sparing (Some Absent)

abbrev pub lone_shape : Option PartitionMap → Option Shape
lone_shape None = None
lone_shape (Some first) = shape_alone first.number (base_of first.kind)

-- of two maps with the same partition number one is the base, and the other stands over it
abbrev pub pair_shape : Option PartitionMap → Option PartitionMap → Option Shape
pair_shape None second = None
pair_shape (Some first) None = None
pair_shape (Some first) (Some second) =
    if bytes_eq first.number second.number
    then or_shape (shape_under 0 first.number second.kind (base_of first.kind)) (shape_under 1 first.number first.kind (base_of second.kind))
    else None

abbrev pub kind_length : MapKind → ℕ
kind_length Physical = first_length
kind_length (Sparable sparing) = second_length
kind_length Metadata = second_length
kind_length Virtual = second_length

abbrev pub length_of : Option PartitionMap → ℕ
length_of None = 0
length_of (Some first) = kind_length first.kind

-- the first map, and the one that follows it
unfoldable pub first_map : List ℕ → Option PartitionMap
first_map body = map_at (map_table body)

unfoldable pub second_map : List ℕ → Option PartitionMap
second_map body = map_at (drop (length_of (first_map body)) (map_table body))

-- the shape that the maps make, where they make one
unfoldable pub shape_of : List ℕ → Option Shape
shape_of body =
    if map_count body == 1 then lone_shape (first_map body)
    else if map_count body == 2 then pair_shape (first_map body) (second_map body)
    else None

-- packets of some blocks, one to four tables, each with room for what stands before its entries
unfoldable pub is_sparing_lawful : SparingMap → Bool
is_sparing_lawful sparing =
    nat_le 1 sparing.packet && (nat_le 1 sparing.count && (nat_le sparing.count 4 && nat_le 56 sparing.bytes))

abbrev pub is_base_lawful : Option SparingMap → Bool
is_base_lawful None = true
is_base_lawful (Some sparing) = is_sparing_lawful sparing
