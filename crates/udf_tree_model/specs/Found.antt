-- Which entries are found: from the root and the system stream directory, by links. Who owns which block plays no part here.
use Rattle.std.specs.Prelude.{ℕ, Bool, ◌&&◌, List}
use Rattle.std.specs.List.{list_any}
use Rattle.udf_field.specs.declared.address.Addr.{Addr}
use Rattle.udf_file_model.specs.Address.{same_addr}
use Rattle.udf_tree_model.specs.Link.{Link, target_of}
use Rattle.udf_tree_model.specs.Node.{Tree, Setting, readable, node_at, good_length}
use Rattle.udf_tree_model.specs.Rounds.{Graph, reached, round_of}

abbrev pub leads_to : Addr → Link → Bool
leads_to a link = same_addr (target_of link.says) a

-- the links of its content up to the good length
unfoldable pub whole_links : Tree → Addr → List Link
whole_links t d = (node_at t d).links (good_length t d)

-- from an entry to the readable targets of its links
unfoldable pub found_graph : Setting → Tree → Graph
found_graph s t = record {
  start = λ a. s.start a && readable t a;
  edge = λ d a. readable t a && list_any (leads_to a) (whole_links t d);
  places = s.places;
}

unfoldable pub found : Setting → Tree → Addr → Bool
found s t a = reached (found_graph s t) a

-- how many links away from a start
unfoldable pub level : Setting → Tree → Addr → ℕ
level s t a = round_of (found_graph s t) a
