use Rattle.std.proofs.Common.{take}
use Rattle.std.specs.BTreeMap.{get}
use Rattle.udf_tree_model.specs.Node.{Setting, Tree}
use Rattle.udf_kept.specs.Fitted.{AreSelectedOf}
use Rattle.udf_kept.specs.Offers.{Knows}
use Rattle.udf_found.specs.Order.{addr_cmp}
use Rattle.udf_kept.proofs.select.select_all.Given as goal

abbrev pub invariant-loop-entry : goal.invariant-loop-entry
invariant-loop-entry l = (s : Setting) (t : Tree) → Knows s t l.held (get addr_cmp l.choices) → AreSelectedOf s t l.held (take l.entry-index l.held) l.all.items
