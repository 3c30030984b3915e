-- Where the search for entries begins.
use Rattle.std.specs.Prelude.{◌≡◌, true, List}
use Rattle.udf_file_model.specs.Listing.{Volume}
use Rattle.udf_tree_model.specs.Among.{Member}
use Rattle.udf_tree_model.specs.Frame.{Frame, is_holder, places}
use Rattle.udf_found.specs.declared.arena.Found.{Found}
use Rattle.udf_found.specs.declared.starts.Starts.{Starts}
use Rattle.udf_found.specs.Seen.{AreRead, HasHolder, spots}
use Rattle.udf_found.specs.Spot.{Spot}
use Rattle.udf_found.specs.Visit.{IsPlaced}

-- the frame has these starts
pub record HasStarts (f : Frame) (s : Starts) : Type 0 where
  pub file_set : f.file_set ≡ s.file_set
  pub root : f.root ≡ s.root
  pub system : f.system ≡ s.system

-- the found entries are the holder of the pointer to the system stream directory, where there is one, and no other
pub record IsHolderAlone (f : Frame) (v : Volume) (q : List Found) : Type 0 where
  pub holder : HasHolder f v q
  pub alone : (x : Spot) → Member x (spots q) → (is_holder f v x.at ≡ true) × (x.level ≡ 0)
  pub read : AreRead f v q
  pub placed : IsPlaced (places v) (spots q)
