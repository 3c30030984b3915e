-- Sparing tables (UDF 2.50 2.2.12), in the bytes of the blocks that a table takes: a tag with identifier 0, the entity
-- `*UDF Sparing Table` at 16, the number of entries at 48, the sequence number at 52, and from 56 on the entries, of an original
-- and a mapped location.
use Rattle.std.specs.Prelude.{ℕ, zero, suc, Bool, true, false, ◌+◌, ◌*◌, ◌%◌, ◌==◌, ◌&&◌, not, nat_lt, nat_le, if◌then◌else◌, codes, Option, Some, None, List, [], ◌∷◌, ◌++◌, map, filter, find, length, slice_index, option_map}
use Rattle.std.specs.List.{list_all, range_with_len}
use Rattle.udf_model.specs.Bytes.{number_at}
use Rattle.udf_model.specs.Tag.{id_at, is_id}
use Rattle.udf_field.specs.FieldView.{entity_is}
use Rattle.udf_volume_model.specs.Anchor.{blocks_for}
use Rattle.udf_volume_model.specs.Maps.{SparingMap}

-- the bytes of so many blocks from a sector on
unfoldable pub bytes_from : (ℕ → List ℕ) → ℕ → ℕ → List ℕ
bytes_from disk at zero = []
bytes_from disk at (suc blocks) = disk at ++ bytes_from disk (at + 1) blocks

-- the area of a table of so many bytes at a sector: the blocks that these bytes take
unfoldable pub table_area : ℕ → (ℕ → List ℕ) → ℕ → ℕ → List ℕ
table_area size disk bytes at = bytes_from disk at (blocks_for size bytes)

abbrev pub entry_count : List ℕ → ℕ
entry_count area = number_at 2 area 48

abbrev pub sequence_number : List ℕ → ℕ
sequence_number area = number_at 4 area 52

-- the bytes of a table up to the end of its entries
abbrev pub table_end : List ℕ → ℕ
table_end area = 56 + 8 * entry_count area

-- the area holds a whole table at the sector: its entries fit into the table's bytes
unfoldable pub is_table : ℕ → ℕ → List ℕ → Bool
is_table bytes at area =
    is_id 0 (id_at at area) && (entity_is area 16 (codes "*UDF Sparing Table") && nat_le (table_end area) bytes)

-- the sequence number of a whole table
unfoldable pub table_number : ℕ → ℕ → List ℕ → Option ℕ
table_number bytes at area = if is_table bytes at area then Some (sequence_number area) else None

-- original and mapped location of an entry
unfoldable pub entry_at : List ℕ → ℕ → ℕ × ℕ
entry_at area i = (number_at 4 area (56 + 8 * i), number_at 4 area (60 + 8 * i))

unfoldable pub entries : List ℕ → List (ℕ × ℕ)
entries area = map (entry_at area) (range_with_len 0 (entry_count area))

-- the entries whose original no earlier entry has
unfoldable pub firsts : List (ℕ × ℕ) → List (ℕ × ℕ)
firsts [] = []
firsts (entry ∷ list) = entry ∷ filter (λ other. not (other.0 == entry.0)) (firsts list)

-- an original that is the first block of a packet of a partition of so many blocks
unfoldable pub is_original : ℕ → ℕ → ℕ → Bool
is_original packet blocks original = (original % packet == 0) && nat_lt original blocks

-- the entries that are used
unfoldable pub used_pairs : ℕ → ℕ → List (ℕ × ℕ) → List (ℕ × ℕ)
used_pairs packet blocks list = filter (λ entry. is_original packet blocks entry.0) (firsts list)

-- a number is at most another, where there is one
abbrev pub at_most : Option ℕ → ℕ → Bool
at_most None most = true
at_most (Some n) most = nat_le n most

-- a number that passes a test
abbrev pub is_top : (ℕ → Bool) → Option ℕ → Bool
is_top test None = false
is_top test (Some n) = test n

-- among so many tables with these sequence numbers, where they are whole, this one is whole and none is higher
unfoldable pub is_highest : (ℕ → Option ℕ) → ℕ → ℕ → Bool
is_highest numbers count i = is_top (λ n. list_all (λ k. at_most (numbers k) n) (range_with_len 0 count)) (numbers i)

-- the index of the table that prevails: the first that is highest
unfoldable pub prevailing_table : (ℕ → Option ℕ) → ℕ → Option ℕ
prevailing_table numbers count = find (is_highest numbers count) (range_with_len 0 count)

-- the area of the table that a map lists at an index, and its sequence number where it is whole
abbrev pub listed_area : ℕ → (ℕ → List ℕ) → SparingMap → ℕ → List ℕ
listed_area size disk sparing i = table_area size disk sparing.bytes (slice_index sparing.tables i)

abbrev pub listed_number : ℕ → (ℕ → List ℕ) → SparingMap → ℕ → Option ℕ
listed_number size disk sparing i = table_number sparing.bytes (slice_index sparing.tables i) (listed_area size disk sparing i)

-- the area of the table that prevails of those that a map lists, where one is whole
unfoldable pub prevailing_area : ℕ → (ℕ → List ℕ) → SparingMap → Option (List ℕ)
prevailing_area size disk sparing =
    option_map (listed_area size disk sparing) (prevailing_table (listed_number size disk sparing) (length sparing.tables))

-- A table as it is used: the blocks of a packet, and the entries that are used, in their order: the first block of an original
-- packet, and the first sector of the packet to which it is mapped.
pub record Table : Type 0 where
  pub packet : ℕ
  pub pairs : List (ℕ × ℕ)

-- how a table is used in a partition of so many blocks
abbrev pub used_of : ℕ → ℕ → List ℕ → Table
used_of packet blocks area = record { packet = packet; pairs = used_pairs packet blocks (entries area) }

-- the prevailing table of those that a map lists, as it is used
unfoldable pub table_stated : ℕ → (ℕ → List ℕ) → SparingMap → ℕ → Option Table
table_stated size disk sparing blocks = option_map (used_of sparing.packet blocks) (prevailing_area size disk sparing)
