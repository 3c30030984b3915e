-- What the tree of a volume tells of its entries.
use Rattle.std.specs.Prelude.{◌≡◌, true, is_some, List, map, filter}
use Rattle.udf_field.specs.declared.address.Addr.{Addr}
use Rattle.udf_file_model.specs.Listing.{Volume, is_placed}
use Rattle.udf_tree_model.specs.Frame.{Frame, is_address}
use Rattle.udf_tree_model.specs.Node.{Item}

-- the addresses that items take
abbrev pub taken : List Item → List Addr
taken items = map (λ i. i.at) (filter (λ i. i.takes) items)

-- where a pointer to the system stream directory is, the file set that holds it stands in the volume
abbrev pub IsFileSetPlaced : Frame → Volume → Type 0
IsFileSetPlaced f v = is_some f.system ≡ true → (is_address f.file_set ≡ true) × (is_placed v f.file_set ≡ true)
