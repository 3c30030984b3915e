-- The bytes of a sparing table up to the end of its entries say what its area does.
use Rattle.std.proofs.Common.{◌≡◌, ℕ, ◌+◌, ◌*◌, ◌≤◌, length, arith, List}
use Rattle.std.proofs.lemmas.List.{length-take-le}
use Rattle.udf_layer.specs.Fronts.{table_bytes}
use Rattle.udf_layer.proofs.AreaFronts.{same_count, same_entries, same_sequence}
use Rattle.udf_volume_model.specs.SparingTable.{entries, entry_count, sequence_number, table_end}

pub bytes_count : (area : List ℕ) → entry_count (table_bytes area) ≡ entry_count area
bytes_count area = same_count (table_end area) area (omega arith)

-- they end with the entries, where the area has these
pub bytes_end : (area : List ℕ) → 56 + 8 * entry_count area ≤ length area → length (table_bytes area) ≡ 56 + 8 * entry_count (table_bytes area)
bytes_end area h = omega (arith, length-take-le (table_end area) area h, bytes_count area)

pub bytes_entries : (area : List ℕ) → entries (table_bytes area) ≡ entries area
bytes_entries area = same_entries (table_end area) area (omega arith) (omega arith)

pub bytes_number : (area : List ℕ) → sequence_number (table_bytes area) ≡ sequence_number area
bytes_number area = same_sequence (table_end area) area (omega arith)
