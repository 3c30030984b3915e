-- What the code finds of kept entries, by what a survey tells of them.
use Rattle.std.specs.Prelude.{ℕ, zero, suc, Bool, true, false, not, ◌&&◌, ◌||◌, ◌==◌, ◌-◌, nat_le, nat_lt, min, is_none, unwrap_or, get_or, slice_get, length, if◌then◌else◌, List, [], ◌∷◌, ◌++◌, Option, Some, None}
use Rattle.std.specs.List.{flat_map}
use Rattle.udf_field.specs.declared.address.Addr.{Addr}
use Rattle.udf_rules.specs.declared.finding.Finding.{Finding}
use Rattle.udf_rules.specs.declared.finding.Place.TheVariants.{At}
use Rattle.udf_dues.specs.declared.counts.Count.{Count}
use Rattle.udf_tree.specs.declared.judge.Verdict.{Verdict}
use Rattle.udf_tree.specs.declared.node.Node.{Node}
use Rattle.udf_tree.specs.declared.node.NodeId.{NodeId}
use Rattle.udf_tree.specs.declared.stated.Stated.{Stated}
use Rattle.udf_tree.specs.Survey.{View}

abbrev pub list_of : Option Finding → List Finding
list_of None = []
list_of (Some finding) = finding ∷ []

abbrev pub seen_at : ℕ → Addr → ℕ → ℕ → Finding
seen_at rule a first second = record { rule = rule; place = At a; first = first; second = second }

-- allocation, by the node and what the entry states
unfoldable pub allocation_of : Node → Stated → List Finding
allocation_of n s =
    if n.whole && nat_le s.information n.kept_length then [] else seen_at 7 n.at s.information (min s.information n.kept_length) ∷ []

abbrev pub allocation_by : Option Node → Option Stated → List Finding
allocation_by None o = []
allocation_by (Some n) None = []
allocation_by (Some n) (Some s) = allocation_of n s

abbrev pub allocation_at : View → NodeId → List Finding
allocation_at x id = allocation_by (slice_get x.nodes id.0) (slice_get x.stated id.0)

unfoldable pub allocation_along : View → List Finding
allocation_along x = flat_map (allocation_at x) x.order

-- link counts, by the node, what the entry states and the lawful counts
unfoldable pub count_of : Node → Stated → Count → List Finding
count_of n s c = if nat_le c.low s.links && nat_le s.links c.high then [] else seen_at 10 n.at s.links n.links ∷ []

abbrev pub count_by : Option Node → Option Stated → Option Count → List Finding
count_by None o p = []
count_by (Some n) None p = []
count_by (Some n) (Some s) None = []
count_by (Some n) (Some s) (Some c) = count_of n s c

abbrev pub count_at : View → NodeId → List Finding
count_at x id = count_by (slice_get x.nodes id.0) (slice_get x.stated id.0) (slice_get x.counts id.0)

unfoldable pub counts_along : View → List Finding
counts_along x = flat_map (count_at x) x.order

-- identifiers, by the node and what the entry states
unfoldable pub identifier_of : Node → Stated → List Finding
identifier_of n s = if not n.ordinary || (s.id == n.id) then [] else seen_at 11 n.at s.id n.id ∷ []

abbrev pub identifier_by : Option Node → Option Stated → List Finding
identifier_by None o = []
identifier_by (Some n) None = []
identifier_by (Some n) (Some s) = identifier_of n s

abbrev pub identifier_at : View → NodeId → List Finding
identifier_at x id = identifier_by (slice_get x.nodes id.0) (slice_get x.stated id.0)

unfoldable pub identifiers_along : View → List Finding
identifiers_along x = flat_map (identifier_at x) x.order
