-- Volumes whose kept entries a repair can mend, and the kept entries of a disk that has their mends.
use Rattle.std.specs.Prelude.{◌≡◌, ℕ, true, Some, None, List, length}
use Rattle.udf_field.specs.declared.address.Addr.{Addr}
use Rattle.udf_model.specs.Size.{is_size}
use Rattle.udf_file_model.specs.CutEntry.{AreBytes}
use Rattle.udf_file_model.specs.Entry.{Entry, is_directory}
use Rattle.udf_file_model.specs.Listing.{Volume, is_placed}
use Rattle.udf_tree_model.specs.Chosen.{selected}
use Rattle.udf_tree_model.specs.Frame.{Frame, entry_at, is_address, is_holder, setting_of, tree_of}
use Rattle.udf_tree_model.specs.Ordinary.{is_kept_entry}
use Rattle.udf_tree_model.specs.Refused.{refusal}
use Rattle.udf_tree_model.specs.Stated.{IsFileSetPlaced}
use Rattle.udf_tree_model.specs.Won.{kept_links}
use Rattle.udf_file_mends.specs.Mends.{HasMendOf}

-- a volume that is not refused for its files, with whole blocks at different sectors
pub record IsRepairable (f : Frame) (v : Volume) : Type 0 where
  -- the block size is one of the profile
  pub size : is_size v.size ≡ true
  pub bytes : AreBytes v.disk
  -- the block at an address has the size of a block
  pub whole : (x : Addr) (n : ℕ) → v.place x ≡ Some n → length (v.disk n) ≡ v.size
  -- a placed address fits its fields (ECMA-167 4/7.1)
  pub low : (x : Addr) → is_placed v x ≡ true → is_address x ≡ true
  -- different addresses have different sectors
  pub apart : (x y : Addr) (n : ℕ) → v.place x ≡ Some n → v.place y ≡ Some n → x ≡ y
  pub accepted : refusal f v ≡ None
  pub file_set : IsFileSetPlaced f v

-- the pointer to the system stream directory (ECMA-167 4/14.1.18), where the file set holds one, is selected
abbrev pub IsPointerSelected : Frame → Volume → Type 0
IsPointerSelected f v =
    (a : Addr) → is_holder f v a ≡ true → selected (setting_of f v) (tree_of f v) a ≡ kept_links (setting_of f v) (tree_of f v) a

-- a kept directory of a repairable volume
pub record IsKeptDirectory (f : Frame) (v : Volume) (a : Addr) (e : Entry) : Type 0 where
  pub repairable : IsRepairable f v
  pub kept : is_kept_entry f v a ≡ true
  pub entry : entry_at v a ≡ Some e
  pub directory : is_directory e ≡ true

-- a kept entry of a repairable volume, and a disk that has its mend
pub record IsMendOn (f : Frame) (v : Volume) (disk : ℕ → List ℕ) (a : Addr) (e : Entry) : Type 0 where
  pub repairable : IsRepairable f v
  pub kept : is_kept_entry f v a ≡ true
  pub entry : entry_at v a ≡ Some e
  pub has : HasMendOf f v a disk
