-- Which entries are kept: from the root and the system stream directory, by fitted links.
use Rattle.std.specs.Prelude.{ℕ, Bool}
use Rattle.std.specs.List.{list_any}
use Rattle.udf_field.specs.declared.address.Addr.{Addr}
use Rattle.udf_tree_model.specs.Node.{Tree, Setting}
use Rattle.udf_tree_model.specs.Rounds.{Graph, reached, round_of}
use Rattle.udf_tree_model.specs.Found.{leads_to}
use Rattle.udf_tree_model.specs.Chosen.{fitted}

unfoldable pub kept_graph : Setting → Tree → Graph
kept_graph s t = record {
  start = s.start;
  edge = λ d a. list_any (leads_to a) (fitted s t d);
  places = s.places;
}

unfoldable pub kept : Setting → Tree → Addr → Bool
kept s t a = reached (kept_graph s t) a

-- how many fitted links away from a start
unfoldable pub depth : Setting → Tree → Addr → ℕ
depth s t a = round_of (kept_graph s t) a
