-- A disk that has the mends of all kept entries of a volume, and of its file set.
use Rattle.std.specs.Prelude.{◌≡◌, ℕ, true, Some, List}
use Rattle.udf_field.specs.declared.address.Addr.{Addr}
use Rattle.udf_model.specs.Tag.{id_at}
use Rattle.udf_file_model.specs.Content.{block_at}
use Rattle.udf_file_model.specs.Listing.{Volume, with_disk}
use Rattle.udf_tree_model.specs.Frame.{Frame, is_holder}
use Rattle.udf_tree_model.specs.Ordinary.{is_kept_entry}
use Rattle.udf_file_mends.specs.FileSet.{mended_set}
use Rattle.udf_file_mends.specs.Mends.{HasMendOf}
use Rattle.udf_file_mends.specs.Repairable.{IsRepairable}

-- the disk has the mend of each kept entry of a repairable volume
pub record HasAllMends (f : Frame) (v : Volume) (disk : ℕ → List ℕ) : Type 0 where
  pub repairable : IsRepairable f v
  pub each : (a : Addr) → is_kept_entry f v a ≡ true → HasMendOf f v a disk
  -- where the file set holds a pointer to the system stream directory (ECMA-167 4/14.1.18), its block is the mended one
  pub set : (a : Addr) → is_holder f v a ≡ true → block_at (with_disk v disk) a ≡ mended_set f v
  -- and its descriptor (4/14.1) stood whole
  pub stands : (a : Addr) → is_holder f v a ≡ true → id_at a.block (block_at v a) ≡ Some 256
