-- Which blocks of a volume tell what is found and kept: those of the addresses at which entries are sought, of the allocation
-- extents of found entries, and of the contents of found directories.
use Rattle.std.specs.Prelude.{◌≡◌, ℕ, true, false, List, Contains, Some}
use Rattle.udf_field.specs.declared.address.Addr.{Addr}
use Rattle.udf_file_model.specs.Entry.{Entry, is_directory}
use Rattle.udf_file_model.specs.Pieces.{IsAmong}
use Rattle.udf_file_model.specs.Listing.{Volume, addresses, is_extent, list_for, with_disk}
use Rattle.udf_file_model.specs.Content.{block_at}
use Rattle.udf_tree_model.specs.Found.{found}
use Rattle.udf_tree_model.specs.Frame.{Frame, entry_at, setting_of, tree_of}
use Rattle.udf_tree_model.specs.Laws.{IsSought}

abbrev pub SameBlock : Volume → (ℕ → List ℕ) → Addr → Type 0
SameBlock v disk x = block_at (with_disk v disk) x ≡ block_at v x

pub record IsFoundEntry (f : Frame) (v : Volume) (a : Addr) (e : Entry) : Type 0 where
  pub found_there : found (setting_of f v) (tree_of f v) a ≡ true
  pub entry : entry_at v a ≡ Some e

-- another disk has the same in these blocks, and no allocation extent is whole on it that is not whole here
pub record HasSameReads (f : Frame) (v : Volume) (disk : ℕ → List ℕ) : Type 0 where
  pub sought : (a : Addr) → IsSought (setting_of f v) (tree_of f v) a → SameBlock v disk a
  pub extents : (a : Addr) (e : Entry) → IsFoundEntry f v a e → (x : Addr) → IsAmong x (list_for v a e) → SameBlock v disk x
  pub contents : (a : Addr) (e : Entry) → IsFoundEntry f v a e → is_directory e ≡ true
      → (x : Addr) → Contains (addresses v.size (list_for v a e)) x → SameBlock v disk x
  pub no_more : (x : Addr) → is_extent v x ≡ false → is_extent (with_disk v disk) x ≡ false
