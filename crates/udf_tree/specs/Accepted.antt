-- The entries of a volume whose files are accepted.
use Rattle.std.specs.Prelude.{◌≡◌, None}
use Rattle.udf_file_model.specs.Listing.{Volume}
use Rattle.udf_tree_model.specs.Frame.{Frame}
use Rattle.udf_tree_model.specs.Refused.{refusal}
use Rattle.udf_tree_model.specs.Stated.{IsFileSetPlaced}
use Rattle.udf_kept.specs.declared.entries.Entries.{Entries}
use Rattle.udf_found.specs.Beyond.{HoldsFileSet}
use Rattle.udf_kept.specs.Entries.{AreEntries}

-- the file set stands at its address, no file is refused, and these are the found entries
pub record IsAccepted (f : Frame) (v : Volume) (e : Entries) : Type 0 where
  pub set : HoldsFileSet f v
  pub placed : IsFileSetPlaced f v
  pub accepted : refusal f v ≡ None
  pub entries : AreEntries f v e
