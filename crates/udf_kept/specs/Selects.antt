-- Which links are selected, told by what is kept of them.
use Rattle.std.specs.Prelude.{ℕ, Bool, false, ◌&&◌, cond, nat_eq, not, Option, Some, None}
use Rattle.udf_field.specs.declared.address.Addr.{Addr}
use Rattle.udf_file_model.specs.Address.{same_addr}
use Rattle.udf_tree_model.specs.Node.{Setting, Tree, node_at}
use Rattle.udf_tree_model.specs.Won.{sound}
use Rattle.udf_tree_model.specs.Chosen.{Rank, chosen}
use Rattle.udf_found.specs.declared.link.Link.{Link}
use Rattle.udf_found.specs.Linked.{Outline, is_first, outline_seen}

-- the rank is that of the link of a holder at a place
abbrev pub is_rank_at : Addr → ℕ → Option Rank → Bool
is_rank_at d place None = false
is_rank_at d place (Some x) = same_addr x.holder d && nat_eq x.place place

-- whether a link is selected, by its outline
unfoldable pub selects_by : Setting → Tree → Addr → Outline → Bool
selects_by s t d o =
    sound s t o.target
    && cond (node_at t o.target).directory (not (s.start o.target) && is_rank_at d o.place (chosen s t o.target)) (not o.pointer)

-- a link of a holder is named and selected
abbrev pub is_selected : Setting → Tree → Addr → Link → Bool
is_selected s t d l = is_first l && selects_by s t d (outline_seen l)
