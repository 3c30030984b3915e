-- Paths from the root of a volume (ECMA-167 4/8.7), and where they lead.
use Rattle.std.specs.Prelude.{ℕ, List, [], ◌∷◌, Option, Some, None, if◌then◌else◌}
use Rattle.udf_field.specs.declared.address.Addr.{Addr}
use Rattle.udf_file_model.specs.Address.{same_addr}
use Rattle.udf_file_model.specs.Listing.{Volume}
use Rattle.udf_file_model.specs.Name.{canonical, canonical_key}
use Rattle.udf_tree_model.specs.Counts.{is_directory_by}
use Rattle.udf_tree_model.specs.Found.{whole_links}
use Rattle.udf_tree_model.specs.Frame.{Frame, entry_at, tree_of}
use Rattle.udf_tree_model.specs.Intact.{look_up}
use Rattle.udf_tree_model.specs.Link.{Link, target_of}

pub data Step : Type 0 where
  -- to the file of a name, which is given by the bytes of a file identifier (4/14.4.8)
  Name : List ℕ → Step
  -- from an entry to its stream directory (4/14.17.20)
  Stream : Step
  -- from the root to the system stream directory (4/14.1.18)
  System : Step

abbrev pub target_by : Option Link → Option Addr
target_by None = None
target_by (Some link) = Some (target_of link.says)

-- where the first link of an entry leads that has a name; the pointer to the stream directory has the name of no FID
abbrev pub linked : Frame → Volume → Addr → List ℕ → Option Addr
linked f v a name = target_by (look_up name (whole_links (tree_of f v) a))

-- an address where a directory stands
abbrev pub directory_at : Volume → Option Addr → Option Addr
directory_at v None = None
directory_at v (Some a) = if is_directory_by (entry_at v a) then Some a else None

-- where a step leads from an entry: a name to the target of the first live FID of that name (UDF 2.1.1), a pointer to its target,
-- where that is a directory
abbrev pub step_from : Frame → Volume → Addr → Step → Option Addr
step_from f v a (Name name) = linked f v a (canonical_key (canonical name))
step_from f v a Stream = directory_at v (linked f v a [])
step_from f v a System = if same_addr a f.root then directory_at v f.system else None

abbrev pub goes_on : Option Addr → (Addr → Option Addr) → Option Addr
goes_on None on = None
goes_on (Some a) on = on a

-- where steps lead from an entry, one after another
unfoldable pub leads : Frame → Volume → List Step → Addr → Option Addr
leads f v [] a = Some a
leads f v (step ∷ steps) a = goes_on (step_from f v a step) (leads f v steps)
