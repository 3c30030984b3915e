use Rattle.std.proofs.Common.{take}
use Rattle.udf_tree.specs.Path.{HaveIndexes}
use Rattle.udf_tree.proofs.names.all_link_indexes.Given as goal

abbrev pub invariant-loop-entry : goal.invariant-loop-entry
invariant-loop-entry l = HaveIndexes (take l.entry-index l.held) l.indexes.items
