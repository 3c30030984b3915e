-- What the code finds of the contents of kept directories, by what a survey tells of them.
use Rattle.std.specs.Prelude.{ℕ, Bool, get_or, slice_get, length, if◌then◌else◌, List, [], ◌∷◌, Option, Some, None}
use Rattle.std.specs.List.{flat_map}
use Rattle.udf_rules.specs.declared.finding.Finding.{Finding}
use Rattle.udf_tree.specs.declared.kept_contents.KeptContent.{KeptContent}
use Rattle.udf_tree.specs.declared.node.Node.{Node}
use Rattle.udf_tree.specs.declared.node.NodeId.{NodeId}
use Rattle.udf_tree.specs.Survey.{View}
use Rattle.udf_file_rules.specs.Seen.{seen_at}

-- the bytes of a content after the mend
abbrev pub bytes_after : KeptContent → Option (List ℕ) → ℕ
bytes_after c None = c.bytes
bytes_after c (Some bytes) = length bytes

abbrev pub content_by : Option Node → Option (Option KeptContent) → Option (List ℕ) → List Finding
content_by None o m = []
content_by (Some n) None m = []
content_by (Some n) (Some None) m = []
content_by (Some n) (Some (Some c)) m = if c.whole then [] else seen_at 8 n.at c.bytes (bytes_after c m) ∷ []

abbrev pub content_at : View → NodeId → List Finding
content_at x id = content_by (slice_get x.nodes id.0) (slice_get x.kept_contents id.0) (get_or x.contents id.0 None)

unfoldable pub contents_along : View → List Finding
contents_along x = flat_map (content_at x) x.order
