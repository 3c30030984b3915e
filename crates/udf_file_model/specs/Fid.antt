-- File identifier descriptors (ECMA-167 4/14.4). A FID is the list of its bytes: characteristics at 18, the length of the name
-- (L_FI) at 19, the ICB at 20, the length of the implementation use (L_IU) at 36, at 38 the implementation use, then the name,
-- and then padding to a multiple of four.
use Rattle.std.specs.Prelude.{◌≡◌, ℕ, Bool, not, ◌+◌, ◌*◌, ◌/◌, ◌%◌, ◌≤◌, ◌==◌, ◌&&◌, nat_lt, nat_le, if◌then◌else◌, Option, Some, None, List, ◌++◌, length, take, drop, slice_index}
use Rattle.udf_model.specs.Bytes.{number_at}
use Rattle.udf_model.specs.Tag.{is_id, whole_id}
use Rattle.udf_field.specs.FieldView.{long_at}
use Rattle.udf_field.specs.declared.address.Long.{Long}

abbrev pub characteristics : List ℕ → ℕ
characteristics fid = slice_index fid 18

abbrev pub name_length : List ℕ → ℕ
name_length fid = slice_index fid 19

abbrev pub use_length : List ℕ → ℕ
use_length fid = number_at 2 fid 36

-- 4/14.4.9: the bytes of the whole descriptor, with its padding
unfoldable pub fid_length : List ℕ → ℕ
fid_length fid = (38 + use_length fid + name_length fid + 3) / 4 * 4

-- 4/14.4.3: bit 2, and bit 3
abbrev pub is_deleted : List ℕ → Bool
is_deleted fid = characteristics fid / 4 % 2 == 1

abbrev pub has_parent_bit : List ℕ → Bool
has_parent_bit fid = characteristics fid / 8 % 2 == 1

-- it names the parent of its directory
unfoldable pub is_parent : List ℕ → Bool
is_parent fid = has_parent_bit fid && not (is_deleted fid)

-- 4/14.4.5: the ICB of the named file
abbrev pub target : List ℕ → Long
target fid = long_at fid 20

-- 4/14.4.8: the name, as its bytes
unfoldable pub name : List ℕ → List ℕ
name fid = take (name_length fid) (drop (38 + use_length fid) fid)

-- it names a file: it is neither deleted nor a parent, and has a name and an ICB
unfoldable pub is_live : List ℕ → Bool
is_live fid = not (is_deleted fid) && (not (is_parent fid) && (nat_lt 0 (name_length fid) && not ((target fid).length == 0)))

-- bytes that are one FID, whole, of at most a block
pub record IsFid (size : ℕ) (fid : List ℕ) : Type 0 where
  pub long : length fid ≡ fid_length fid
  pub small : length fid ≤ size
  pub whole : whole_id fid ≡ Some 257

-- a whole FID begins the bytes
pub record Begins (size : ℕ) (bytes fid : List ℕ) : Type 0 where
  pub is : IsFid size fid
  pub rest : List ℕ
  pub split : bytes ≡ fid ++ rest

abbrev pub fid_bytes : List ℕ → List ℕ
fid_bytes bytes = take (fid_length bytes) bytes

unfoldable pub begins_with_fid : ℕ → List ℕ → Bool
begins_with_fid size bytes =
    nat_le (fid_length bytes) (length bytes) && (nat_le (fid_length bytes) size && is_id 257 (whole_id (fid_bytes bytes)))

-- the FID that begins the bytes; `fid_law` says that it is the one that `Begins` has
unfoldable pub fid_at : ℕ → List ℕ → Option (List ℕ)
fid_at size bytes = if begins_with_fid size bytes then Some (fid_bytes bytes) else None
