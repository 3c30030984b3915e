-- Paths that no damage touches, and paths that a repair keeps.
use Rattle.std.specs.Prelude.{◌≡◌, false, List, [], ◌∷◌, Some}
use Rattle.udf_field.specs.declared.address.Addr.{Addr}
use Rattle.udf_file_model.specs.Entry.{Entry, is_directory}
use Rattle.udf_file_model.specs.Listing.{Volume}
use Rattle.udf_tree_model.specs.Frame.{Frame, entry_at}
use Rattle.udf_intact.specs.Entries.{IsIntactEntry, bytes_at}
use Rattle.udf_intact.specs.Steps.{Step, leads, step_from}

-- each step leads to an entry, and no damage touches those on the way and at the end
abbrev pub IsIntactFrom : Frame → Volume → List Step → Addr → Type 0
IsIntactFrom f v [] a = IsIntactEntry f v a
IsIntactFrom f v (step ∷ steps) a = IsIntactEntry f v a × ((b : Addr) × (step_from f v a step ≡ Some b) × IsIntactFrom f v steps b)

abbrev pub IsIntactPath : Frame → Volume → List Step → Type 0
IsIntactPath f v steps = IsIntactFrom f v steps f.root

-- the path leads in the volume w, with the frame g, to the entry to which it led in v: again a directory if it was one, and else with
-- the same bytes
pub record KeepsPath (f : Frame) (v : Volume) (g : Frame) (w : Volume) (steps : List Step) : Type 0 where
  pub to : Addr
  pub old : leads f v steps f.root ≡ Some to
  pub new : leads g w steps g.root ≡ Some to
  pub before : Entry
  pub was : entry_at v to ≡ Some before
  pub after : Entry
  pub is : entry_at w to ≡ Some after
  pub same_kind : is_directory after ≡ is_directory before
  pub same_bytes : is_directory before ≡ false → bytes_at w to after ≡ bytes_at v to before
