-- The bytes of an entry's or an allocation extent's body, cut to the first descriptors.
use Rattle.std.specs.Prelude.{◌≡◌, ℕ, suc, ◌+◌, ◌-◌, ◌*◌, ◌/◌, ◌^◌, ◌<◌, ◌≤◌, ◌==◌, nat_lt, if◌then◌else◌, Option, Some, None, List, [], ◌∷◌, length, take}
use Rattle.udf_field.specs.declared.address.Addr.{Addr}
use Rattle.udf_model.specs.Bytes.{IsBytes, number_at, with_number, written_at}
use Rattle.udf_model.specs.Tag.{retagged}
use Rattle.udf_file_model.specs.Entry.{extent_body}
use Rattle.udf_file_model.specs.Descriptors.{Descriptor, descriptors}
use Rattle.udf_file_model.specs.Cut.{Onward, onward, trim}

-- the bytes of a descriptor of a kind (4/14.14.1 and 4/14.14.2)
unfoldable pub width_of : ℕ → ℕ
width_of kind = if kind == 0 then 8 else 16

-- the descriptor at an offset with another length; its kind, the two highest bits of the number, stays (4/14.14.1.1)
unfoldable pub with_length : ℕ → ℕ → List ℕ → List ℕ
with_length at bytes body = with_number 4 at (number_at 4 body at / 1073741824 * 1073741824 + bytes) body

-- the last of the first n descriptors from an offset on has this length
unfoldable pub with_last : ℕ → ℕ → ℕ → ℕ → List ℕ → List ℕ
with_last at width n last body = if n == 0 then body else with_length (at + (n - 1) * width) last body

-- the first n descriptors of a body, the last of them with a length
unfoldable pub first_of : ℕ → ℕ → ℕ → List ℕ → List ℕ
first_of kind n last body = take (n * width_of kind) (with_last 0 (width_of kind) n last body)

-- the least number of descriptors whose sum reaches b, and what is left of b for the last of them
unfoldable pub kept_count : ℕ → List Descriptor → ℕ
kept_count b [] = 0
kept_count b (d ∷ ds) = if nat_lt d.length b then suc (kept_count (b - d.length) ds) else 1

unfoldable pub last_length : ℕ → List Descriptor → ℕ
last_length b [] = 0
last_length b (d ∷ ds) = if nat_lt d.length b then last_length (b - d.length) ds else b

abbrev pub cut_body_by : ℕ → ℕ → List Descriptor → List ℕ → Option Onward → List ℕ
cut_body_by kind b ds body None = first_of kind (kept_count b ds) (last_length b ds) body
cut_body_by kind b ds body (Some o) = body

-- a body cut to b bytes, none where b is 0; one that goes on elsewhere before that stays
unfoldable pub cut_body : ℕ → Addr → ℕ → List ℕ → List ℕ
cut_body kind holder b body =
    if b == 0 then [] else cut_body_by kind b (descriptors kind holder body) body (onward b (descriptors kind holder body))

-- the descriptors that are left of it
unfoldable pub cut_descriptors : ℕ → List Descriptor → List Descriptor
cut_descriptors b ds = if b == 0 then [] else trim b ds

-- the allocation extent with these bytes of descriptors (4/14.5) and a new tag; what follows them in the block stays
unfoldable pub extent_with : ℕ → List ℕ → List ℕ → List ℕ
extent_with location body block = retagged location (8 + length body) (written_at 24 body (with_number 4 20 (length body) block))

-- the block of a whole allocation extent with these bytes of descriptors, at a location
pub record HasExtent (location : ℕ) (block body : List ℕ) : Type 0 where
  pub bytes : IsBytes block
  pub most : length block ≤ 4096
  pub low : location < 2 ^ 32
  pub whole : extent_body location block ≡ Some body
