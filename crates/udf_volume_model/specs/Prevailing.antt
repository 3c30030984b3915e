-- Prevailing descriptors (ECMA-167 3/8.4.3): of one kind and subject the one with the highest sequence number, the
-- earliest of equals.
use Rattle.std.specs.Prelude.{◌≡◌, ◌<◌, ◌≤◌, ℕ, Bool, true, Option, Some, not, ◌==◌, ◌&&◌, ◌||◌, ◌-◌, nat_le, if◌then◌else◌, List, [], take, drop, find, position, slice_get}
use Rattle.std.specs.List.{list_all}
use Rattle.std.specs.Str.{bytes_eq}
use Rattle.udf_model.specs.Bytes.{number_at}
use Rattle.udf_volume_model.specs.Sequence.{Descriptor}

-- The number in the n bytes at an offset of a descriptor, counted from its tag's first byte.
abbrev pub number_in : ℕ → List ℕ → ℕ → ℕ
number_in n body at = number_at n body (at - 16)

-- the sequence number (3/10.1.2, 3/10.4.2, 3/10.5.2, 3/10.6.2, 3/10.8.2)
abbrev pub number_of : Descriptor → ℕ
number_of descriptor = number_in 4 descriptor.body 16

-- of a partition descriptor its number (3/10.5.4), of an implementation use descriptor its 23 identifier bytes (3/10.4.3);
-- other kinds have one subject
unfoldable pub subject_of : Descriptor → List ℕ
subject_of descriptor =
    if descriptor.id == 5 then take 2 (drop 6 descriptor.body)
    else if descriptor.id == 4 then take 23 (drop 5 descriptor.body)
    else []

-- a descriptor of this kind and subject
unfoldable pub is_of : ℕ → List ℕ → Descriptor → Bool
is_of kind subject descriptor = (descriptor.id == kind) && bytes_eq (subject_of descriptor) subject

-- no other of its kind and subject has a higher number
unfoldable pub is_highest : List Descriptor → Descriptor → Bool
is_highest list descriptor =
    list_all (λ other. not (is_of descriptor.id (subject_of descriptor) other) || nat_le (number_of other) (number_of descriptor)) list

-- the descriptor that prevails of a kind and subject, and its index in the list
unfoldable pub prevailing : ℕ → List ℕ → List Descriptor → Option Descriptor
prevailing kind subject list = find (λ descriptor. is_of kind subject descriptor && is_highest list descriptor) list

unfoldable pub prevailing_index : ℕ → List ℕ → List Descriptor → Option ℕ
prevailing_index kind subject list = position (λ descriptor. is_of kind subject descriptor && is_highest list descriptor) list

-- The descriptor at this index prevails: of its kind and subject none has a higher number, and none before it an equal one.
pub record Prevails (kind : ℕ) (subject : List ℕ) (list : List Descriptor) (index : ℕ) (descriptor : Descriptor) : Type 0 where
  pub stands : slice_get list index ≡ Some descriptor
  pub of : is_of kind subject descriptor ≡ true
  pub highest : (k : ℕ) (other : Descriptor) → slice_get list k ≡ Some other → is_of kind subject other ≡ true
      → number_of other ≤ number_of descriptor
  pub earliest : (k : ℕ) (other : Descriptor) → slice_get list k ≡ Some other → is_of kind subject other ≡ true
      → k < index → number_of other < number_of descriptor
