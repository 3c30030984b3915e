-- The way from a kept entry up to the root, parent after parent.
use Rattle.std.specs.Prelude.{◌≡◌, ℕ, zero, suc, ◌<◌, ◌≤◌, true}
use Rattle.udf_field.specs.declared.address.Addr.{Addr}
use Rattle.udf_file_model.specs.Listing.{Volume}
use Rattle.udf_tree_model.specs.Frame.{Frame, setting_of, tree_of}
use Rattle.udf_tree_model.specs.Kept.{depth}
use Rattle.udf_tree_model.specs.Ordinary.{is_kept_entry}
use Rattle.udf_tree_model.specs.Parent.{parent}

-- where so many steps up from an entry lead
unfoldable pub climb : Frame → Volume → ℕ → Addr → Addr
climb f v zero a = a
climb f v (suc k) a = parent f v (climb f v k a)

-- the least number of steps that lead from an entry up to the root
pub record IsDistance (f : Frame) (v : Volume) (a : Addr) (k : ℕ) : Type 0 where
  pub arrives : climb f v k a ≡ f.root
  pub least : (j : ℕ) → climb f v j a ≡ f.root → k ≤ j

-- a kept entry of less depth than another
pub record IsNearer (f : Frame) (v : Volume) (a p : Addr) : Type 0 where
  pub kept_is : is_kept_entry f v p ≡ true
  pub less : depth (setting_of f v) (tree_of f v) p < depth (setting_of f v) (tree_of f v) a
