-- What found entries say of a tree.
use Rattle.std.specs.Prelude.{◌≡◌, ℕ, true, List, map}
use Rattle.udf_field.specs.declared.address.Addr.{Addr}
use Rattle.udf_file_model.specs.Listing.{Volume}
use Rattle.udf_tree_model.specs.Among.{Member}
use Rattle.udf_tree_model.specs.Found.{whole_links, found_graph}
use Rattle.udf_tree_model.specs.Frame.{Frame, is_holder, setting_of, tree_of}
use Rattle.udf_found.specs.declared.arena.Found.{Found}
use Rattle.udf_found.specs.Order.{is_known}
use Rattle.udf_found.specs.Shape.{IsShaped}
use Rattle.udf_found.specs.Spot.{Spot, spot, IsQueueAt}
use Rattle.udf_found.specs.Visit.{Visit}
use Rattle.udf_found.specs.Linked.{AreLinks}

abbrev pub spots : List Found → List Spot
spots q = map (λ n. spot n.at n.level) q

-- the holder of the pointer to the system stream directory is among them, where there is one
pub record HasHolder (f : Frame) (v : Volume) (q : List Found) : Type 0 where
  pub known : (a : Addr) → is_holder f v a ≡ true → is_known a q ≡ true

-- each has its links, and its shape
pub record AreRead (f : Frame) (v : Volume) (q : List Found) : Type 0 where
  pub each : (n : Found) → Member n q → AreLinks (whole_links (tree_of f v) n.at) n.links.items
  pub shapes : (n : Found) → Member n q → IsShaped f v n.at n.shape

-- of the found entries the first n are done
pub record IsAt (f : Frame) (v : Volume) (n : ℕ) (q : List Found) : Type 0 where
  pub holder : HasHolder f v q
  pub read : AreRead f v q
  pub queue : IsQueueAt (found_graph (setting_of f v) (tree_of f v)) n (spots q)

-- and of the next one, these targets
pub record IsWithin (f : Frame) (v : Volume) (n : ℕ) (x : Spot) (targets : List Addr) (q : List Found) : Type 0 where
  pub holder : HasHolder f v q
  pub read : AreRead f v q
  pub visit : Visit (found_graph (setting_of f v) (tree_of f v)) (tree_of f v) n x targets (spots q)
