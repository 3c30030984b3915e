-- The front of a sparing table's area.
use Rattle.std.specs.Prelude.{◌≡◌, ℕ, true, ◌+◌, ◌*◌, ◌≤◌, max, List, length, take}
use Rattle.udf_model.specs.Tag.{crc_length}
use Rattle.udf_volume_model.specs.SparingTable.{entry_count, is_table, table_end}

-- The front of an area on which all that a table says rests: the bytes that its tag's CRC covers, and its entries.
unfoldable pub front_length : List ℕ → ℕ
front_length area = max (16 + crc_length area) (56 + 8 * entry_count area)

abbrev pub table_front : List ℕ → List ℕ
table_front area = take (front_length area) area

-- the bytes of a table, up to the end of its entries
abbrev pub table_bytes : List ℕ → List ℕ
table_bytes area = take (table_end area) area

-- The bytes of some whole table whose map gives it so many: they end with its entries.
pub record IsTableBytes (bytes : ℕ) (table : List ℕ) : Type 0 where
  pub ends : length table ≡ table_end table
  pub fits : length table ≤ bytes
  pub at : ℕ
  pub area : List ℕ
  pub whole : is_table bytes at area ≡ true
  pub front : table ≡ table_bytes area
