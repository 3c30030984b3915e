-- Which sparing table prevails (UDF 2.50 2.2.12): of the whole ones the one with the highest sequence number, the earliest listed of
-- equals; and the maps whose tables are read.
use Rattle.std.specs.Prelude.{◌≡◌, ℕ, ◌+◌, ◌*◌, ◌<◌, ◌≤◌, Option, Some, slice_index}
use Rattle.udf_layer.specs.declared.maps.SparingMap.{SparingMap}
use Rattle.udf_layer.specs.Tables.{area_bytes}

-- The table at an index prevails: it is whole, none has a higher number, and none before it an equal one; `prevailing_law` says
-- that this is the table that is found.
pub record Prevails (numbers : ℕ → Option ℕ) (count best : ℕ) : Type 0 where
  pub within : best < count
  pub number : ℕ
  pub whole : numbers best ≡ Some number
  pub highest : (k : ℕ) → k < count → (n : ℕ) → numbers k ≡ Some n → n ≤ number
  pub earliest : (k n : ℕ) → k < best → numbers k ≡ Some n → n < number

-- A map that is read: packets of some blocks, at most four tables, each of at least the bytes before its entries and in an image
-- of so many bytes.
pub record IsTableMap (size image_size : ℕ) (m : SparingMap) : Type 0 where
  pub packet : 0 < m.packet
  pub few : m.count ≤ 4
  pub some : 56 ≤ m.bytes
  pub within : (i : ℕ) → i < m.count → slice_index m.at i * size + area_bytes size m.bytes ≤ image_size
