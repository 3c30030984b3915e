-- What the code reads of sparing tables, as the definitions have it.
use Rattle.std.specs.Prelude.{◌≡◌, ℕ, ◌<◌, ◌≤◌, Option, Some, None, List}
use Rattle.udf_layer.specs.declared.whole_table.WholeTable.{WholeTable}
use Rattle.udf_layer.specs.declared.missing.LayerStop.{LayerStop}
use Rattle.udf_layer.specs.declared.missing.LayerStop.TheVariants.{Fault, Memory}
use Rattle.udf_layer.specs.declared.missing.LayerStop.TheVariants as stops
use Rattle.udf_layer.specs.declared.missing.Missing.TheVariants as missing
use Rattle.udf_layer.specs.declared.maps.SparingMap.{SparingMap}
use Rattle.udf_layer.specs.Fronts.{IsTableBytes}
use Rattle.udf_volume_model.specs.SparingTable.{Table, used_pairs}

-- a table that was read has this number, where one is whole, and these bytes
abbrev pub IsRead : Option ℕ → List ℕ → Option WholeTable → Type 0
IsRead number bytes None = number ≡ None
IsRead number bytes (Some table) = (number ≡ Some table.number) × (table.bytes.items ≡ bytes)

-- among the first i tables, with these numbers and bytes, the one at this index is the highest, and the earliest of equals
pub record BestAt (numbers : ℕ → Option ℕ) (texts : ℕ → List ℕ) (i : ℕ) (table : WholeTable) (best : ℕ) : Type 0 where
  pub within : best < i
  pub stands : numbers best ≡ Some table.number
  pub bytes : table.bytes.items ≡ texts best
  pub highest : (k n : ℕ) → k < i → numbers k ≡ Some n → n ≤ table.number
  pub earliest : (k n : ℕ) → k < best → numbers k ≡ Some n → n < table.number

abbrev pub IsBest : (ℕ → Option ℕ) → (ℕ → List ℕ) → ℕ → Option WholeTable → Type 0
IsBest numbers texts i None = (k : ℕ) → k < i → numbers k ≡ None
IsBest numbers texts i (Some table) = (best : ℕ) × BestAt numbers texts i table best

-- what every whole table that is read has, also over a bench that tells nothing: the bytes of some table of so many bytes
abbrev pub IsOfTable : ℕ → Option WholeTable → Type 0
IsOfTable bytes None = Unit {0}
IsOfTable bytes (Some table) = IsTableBytes bytes table.bytes.items

-- what every table that is read has, also over a bench that tells nothing: the map's packets, and the used ones of some entries
pub record IsUsedTable (m : SparingMap) (blocks : ℕ) (table : Table) : Type 0 where
  pub packet : table.packet ≡ m.packet
  pub list : List (ℕ × ℕ)
  pub pairs : table.pairs ≡ used_pairs m.packet blocks list

-- the stops of a sparing table
abbrev pub IsTableStop : LayerStop → Type 0
IsTableStop (stops.Missing m) = m ≡ missing.SparingTable
IsTableStop Fault = Unit {0}
IsTableStop Memory = Unit {0}
