-- What is counted of the ordinary entries of a survey, and what it tells of those of a volume.
use Rattle.std.specs.Prelude.{◌≡◌, ◌+◌, ◌<◌, ◌^◌, not, filter, length, map, max, slice_get, if◌then◌else◌, List, [], ◌∷◌, Option, Some, None}
use Rattle.std.specs.List.{flat_map}
use Rattle.udf_file_model.specs.Listing.{Volume}
use Rattle.udf_tree_model.specs.Frame.{Frame}
use Rattle.udf_tree_model.specs.Ordinary.{ordinary_directories, ordinary_files}
use Rattle.udf_tree.specs.declared.node.Node.{Node}
use Rattle.udf_tree.specs.declared.node.NodeId.{NodeId}
use Rattle.udf_tree.specs.Survey.{View}
use Rattle.udf_rules_model.specs.Integrity.{greatest, greatest_id}
use Rattle.udf_file_rules.specs.declared.tally.Tally.{Tally}

abbrev pub ordinary_by : Option Node → List Node
ordinary_by None = []
ordinary_by (Some n) = if n.ordinary then n ∷ [] else []

abbrev pub ordinary_at : View → NodeId → List Node
ordinary_at x id = ordinary_by (slice_get x.nodes id.0)

-- the ordinary entries in the order of their addresses
unfoldable pub ordinary_along : View → List Node
ordinary_along x = flat_map (ordinary_at x) x.order

unfoldable pub tally_of : List Node → Tally
tally_of ns = record {
  files = length (filter (λ n. not n.directory) ns);
  directories = length (filter (λ n. n.directory) ns);
  greatest_id = greatest (map (λ n. n.id) ns);
}

-- with one entry more
abbrev pub counted : Tally → Node → Tally
counted t n =
    if not n.ordinary then t
    else if n.directory then record { files = t.files; directories = t.directories + 1; greatest_id = max t.greatest_id n.id }
    else record { files = t.files + 1; directories = t.directories; greatest_id = max t.greatest_id n.id }

-- the counts of a volume; above its identifiers there is room for one more
pub record IsTally (f : Frame) (v : Volume) (t : Tally) : Type 0 where
  pub files_are : t.files ≡ length (ordinary_files f v)
  pub directories_are : t.directories ≡ length (ordinary_directories f v)
  pub greatest_is : t.greatest_id ≡ greatest_id f v
  pub room : t.greatest_id + 1 < 2 ^ 64
