-- A disk that has edits at blocks of a volume that follow one another.
use Rattle.std.specs.Prelude.{◌≡◌, ◌<◌, ◌+◌, ℕ, Some, List}
use Rattle.udf_field.specs.declared.address.Addr.{Addr}
use Rattle.udf_file_model.specs.Address.{addr}
use Rattle.udf_file_model.specs.Listing.{Volume}
use Rattle.udf_volume_model.specs.Edits.{look}

-- at each of so many blocks from an address on another disk has what these edits make of the volume's
pub record HasEdits (v : Volume) (at : Addr) (many : ℕ) (edits : List (ℕ × List ℕ)) (disk : ℕ → List ℕ) : Type 0 where
  pub each : (k sector : ℕ) → k < many → v.place (addr at.part (at.block + k)) ≡ Some sector → disk sector ≡ look sector edits (v.disk sector)
