-- An entry that is cut to its first bytes, and the allocation extents of its list with it.
use Rattle.std.specs.Prelude.{◌≡◌, ℕ, ◌*◌, ◌==◌, if◌then◌else◌, Option, Some, None, List, take}
use Rattle.udf_field.specs.declared.address.Addr.{Addr}
use Rattle.udf_model.specs.Bytes.{IsBytes}
use Rattle.udf_file_model.specs.Entry.{Entry}
use Rattle.udf_file_model.specs.Pieces.{IsAmong}
use Rattle.udf_file_model.specs.Listing.{Volume, with_disk, extent_at, descriptors_in, descriptors_of, list_for}
use Rattle.udf_file_model.specs.Cut.{cut_pieces, left_in}
use Rattle.udf_file_model.specs.CutBody.{cut_body}

-- the entry at an address, cut to so many bytes
abbrev pub cut_entry : Addr → ℕ → Entry → Entry
cut_entry a b e = record e { information = b; body = if e.kind == 3 then take b e.body else cut_body e.kind a b e.body }

-- what is left of the bytes of the extent at an address
abbrev pub extent_left : ℕ → Addr → Option ℕ → Option (List ℕ) → Option (List ℕ)
extent_left kind x None found = found
extent_left kind x (Some b) None = None
extent_left kind x (Some b) (Some body) = Some (cut_body kind x b body)

-- how many bytes a cut of the entry's list to b bytes leaves of what the extent at an address has, where it reaches that
unfoldable pub left_at : Volume → Addr → Entry → ℕ → Addr → Option ℕ
left_at v a e b x = left_in (descriptors_in v e.kind) (2 * v.blocks) b (descriptors_of a e) x

-- on another disk each allocation extent of the cut list has what the cut leaves of it
pub record IsCut (v : Volume) (disk : ℕ → List ℕ) (a : Addr) (e : Entry) (b : ℕ) : Type 0 where
  pub extents : (x : Addr) → IsAmong x (cut_pieces b (list_for v a e))
      → extent_at (with_disk v disk) x ≡ extent_left e.kind x (left_at v a e b x) (extent_at v x)

-- the blocks of a disk are bytes
abbrev pub AreBytes : (ℕ → List ℕ) → Type 0
AreBytes disk = (sector : ℕ) → IsBytes (disk sector)
