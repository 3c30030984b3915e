-- The parents of kept entries, stream directories, and which entries are ordinary.
use Rattle.std.specs.Prelude.{Bool, false, not, ◌&&◌, ◌==◌, cond, List, [], ◌∷◌, ◌++◌, map, Option, Some, None, if◌then◌else◌}
use Rattle.std.specs.List.{list_any, filter}
use Rattle.udf_field.specs.declared.address.Addr.{Addr}
use Rattle.udf_file_model.specs.Address.{same_addr}
use Rattle.udf_file_model.specs.Listing.{Volume}
use Rattle.udf_tree_model.specs.Link.{Link, is_pointer}
use Rattle.udf_tree_model.specs.Node.{Tree, Setting, node_at}
use Rattle.udf_tree_model.specs.Rounds.{Graph, reached}
use Rattle.udf_tree_model.specs.Found.{leads_to}
use Rattle.udf_tree_model.specs.Chosen.{Rank, first_rank, chosen_link, fitted}
use Rattle.udf_tree_model.specs.Kept.{kept, depth}
use Rattle.udf_tree_model.specs.Frame.{Frame, setting_of, tree_of}

-- fitted links are ranked by the depth of their holder
unfoldable pub keeping_rank : Setting → Tree → Addr → Link → Rank
keeping_rank s t d f = record { level = depth s t d; holder = d; place = f.place }

-- the ranks of the fitted links by which a kept entry leads to an address
unfoldable pub keeping_in : Setting → Tree → Addr → Addr → List Rank
keeping_in s t a d = cond (kept s t d) (map (keeping_rank s t d) (filter (leads_to a) (fitted s t d))) []

unfoldable pub keeping_over : Setting → Tree → Addr → List Addr → List Rank
keeping_over s t a [] = []
keeping_over s t a (d ∷ ds) = keeping_in s t a d ++ keeping_over s t a ds

-- the first fitted link of a kept entry that leads to an address; to a directory there is one at most, its chosen link
unfoldable pub keeping : Setting → Tree → Addr → Option Rank
keeping s t a = first_rank (keeping_over s t a s.places)

-- what the system stream directory hangs on is the root
abbrev pub parent_by : Frame → Option Rank → Addr
parent_by f None = f.root
parent_by f (Some x) = if same_addr x.holder f.file_set then f.root else x.holder

-- the parent of a kept entry: the root's is the root
unfoldable pub parent : Frame → Volume → Addr → Addr
parent f v a = if same_addr a f.root then f.root else parent_by f (keeping (setting_of f v) (tree_of f v) a)

abbrev pub is_pointer_rank : Option Rank → Bool
is_pointer_rank None = false
is_pointer_rank (Some x) = x.place == 0

-- a stream directory is a kept directory whose chosen link is a pointer
unfoldable pub is_stream_directory : Setting → Tree → Addr → Bool
is_stream_directory s t a = kept s t a && ((node_at t a).directory && is_pointer_rank (chosen_link s t a))

-- from the root by fitted FIDs alone
unfoldable pub ordinary_graph : Frame → Volume → Graph
ordinary_graph f v = record {
  start = λ a. same_addr a f.root;
  edge = λ d a. list_any (λ link. not (is_pointer link.says) && leads_to a link) (fitted (setting_of f v) (tree_of f v) d);
  places = (setting_of f v).places;
}

unfoldable pub ordinary : Frame → Volume → Addr → Bool
ordinary f v a = reached (ordinary_graph f v) a
