-- Allocation descriptors (ECMA-167 4/14.14), in the body of an entry or of an allocation extent.
use Rattle.std.specs.Prelude.{ℕ, zero, suc, ◌+◌, ◌*◌, ◌/◌, ◌==◌, if◌then◌else◌, List, [], ◌∷◌, length}
use Rattle.udf_field.specs.declared.address.Addr.{Addr}
use Rattle.udf_field.specs.declared.address.Short.{Short}
use Rattle.udf_field.specs.declared.address.Long.{Long}
use Rattle.udf_field.specs.FieldView.{short_at, long_at}
use Rattle.udf_file_model.specs.Address.{addr}

-- a descriptor: its kind (0 recorded, 1 allocated, 2 hole, 3 continuation), its bytes, its address, the address of the
-- entry or allocation extent that holds it, and its number there
pub record Descriptor : Type 0 where
  pub kind : ℕ
  pub length : ℕ
  pub at : Addr
  pub holder : Addr
  pub index : ℕ

-- 4/14.14.1: a short descriptor speaks of the partition of its entry
abbrev pub of_short : Addr → ℕ → Short → Descriptor
of_short holder index short =
    record { kind = short.kind; length = short.length; at = addr holder.part short.block; holder = holder; index = index }

-- 4/14.14.2
abbrev pub of_long : Addr → ℕ → Long → Descriptor
of_long holder index long = record { kind = long.kind; length = long.length; at = long.at; holder = holder; index = index }

-- descriptor i of a body, by the kind of the entry
unfoldable pub descriptor_at : ℕ → Addr → List ℕ → ℕ → Descriptor
descriptor_at kind holder body i =
    if kind == 0 then of_short holder i (short_at body (8 * i)) else of_long holder i (long_at body (16 * i))

-- how many whole descriptors a body of so many bytes has; kinds 2 and 3 have none
unfoldable pub descriptor_count : ℕ → ℕ → ℕ
descriptor_count kind bytes = if kind == 0 then bytes / 8 else (if kind == 1 then bytes / 16 else 0)

-- n descriptors from i on; one of length 0 ends them (4/12)
unfoldable pub descriptors_from : (ℕ → Descriptor) → ℕ → ℕ → List Descriptor
descriptors_from at i zero = []
descriptors_from at i (suc n) = if (at i).length == 0 then [] else at i ∷ descriptors_from at (i + 1) n

unfoldable pub descriptors : ℕ → Addr → List ℕ → List Descriptor
descriptors kind holder body = descriptors_from (descriptor_at kind holder body) 0 (descriptor_count kind (length body))
