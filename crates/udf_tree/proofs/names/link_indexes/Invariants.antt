use Rattle.std.proofs.Common.{◌≡◌, ℕ, take}
use Rattle.std.specs.BTreeMap.{get}
use Rattle.std.specs.Ordering.{nat_cmp}
use Rattle.udf_tree.specs.Path.{index_by}
use Rattle.udf_tree.proofs.names.link_indexes.Given as goal

abbrev pub invariant-loop-i : goal.invariant-loop-i
invariant-loop-i l = (q : ℕ) → get nat_cmp l.indexes q ≡ index_by (take l.i l.links) q
