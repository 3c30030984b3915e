use Rattle.std.proofs.Common.{◌≡◌, ◌++◌, map, drop}
use Rattle.std.specs.BTreeMap.{get}
use Rattle.udf_tree_model.specs.Node.{Setting, Tree}
use Rattle.udf_kept.specs.Fitted.{step_seen}
use Rattle.udf_kept.specs.Offers.{Knows}
use Rattle.udf_kept.specs.Selects.{is_selected}
use Rattle.udf_found.specs.Order.{addr_cmp}
use Rattle.udf_kept.proofs.Fitting.{front}
use Rattle.udf_kept.proofs.select.fitted_links.Given as goal

abbrev pub invariant-loop-link : goal.invariant-loop-link
invariant-loop-link l = (s : Setting) (t : Tree) → Knows s t l.held (get addr_cmp l.choices)
    → map (step_seen l.held) l.fitted.items ++ front (is_selected s t l.holder.at) l.room (drop l.link-index l.holder.links.items)
    ≡ front (is_selected s t l.holder.at) l.holder.space l.holder.links.items
