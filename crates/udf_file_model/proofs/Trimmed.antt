-- The allocation extents of a list that is cut: each holds what the cut leaves of it.
use Rattle.std.proofs.Common.{ℕ, zero, suc, Option, Some, None, List, ◌≡◌}
use Rattle.std.specs.Prelude.{if◌then◌else◌}
use Rattle.udf_field.specs.declared.address.Addr.{Addr}
use Rattle.udf_file_model.specs.Address.{same_addr}
use Rattle.udf_file_model.specs.Descriptors.{Descriptor}
use Rattle.udf_file_model.specs.Pieces.{pieces, further, IsAmong}
use Rattle.udf_file_model.specs.Cut.{cut_pieces, trim, Onward, onward}

unfoldable pub trim_at : Addr → List Descriptor → (Addr → List Descriptor) → Addr → List Descriptor
trim_at x body rest y = if same_addr y x then body else rest y

unfoldable pub trim_on : (Addr → List Descriptor) → Option Onward → (Onward → Addr → List Descriptor) → Addr → List Descriptor
trim_on at None f = at
trim_on at (Some o) f = trim_at o.next (trim o.left (at o.next)) (f o)

-- the allocation extents after the cut
unfoldable pub trimmed : (Addr → List Descriptor) → ℕ → ℕ → List Descriptor → Addr → List Descriptor
trimmed at zero b ds = at
trimmed at (suc n) b ds = trim_on at (onward b ds) (λ o. trimmed at n o.left (at o.next))

-- no extent comes again behind itself before the cut
abbrev pub ComeOnce : (Addr → List Descriptor) → ℕ → ℕ → List Descriptor → Type 0
ComeOnce at zero b ds = Unit {0}
ComeOnce at (suc n) b ds =
    (o : Onward) → onward b ds ≡ Some o
    → (IsAmong o.next (cut_pieces o.left (pieces (further at n) (at o.next))) → ⊥) × ComeOnce at n o.left (at o.next)
