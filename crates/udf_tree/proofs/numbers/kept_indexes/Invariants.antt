use Rattle.std.proofs.Common.{◌≡◌, ◌++◌, drop, map, Some}
use Rattle.udf_kept.specs.Fitted.{at_of}
use Rattle.udf_tree.specs.Nodes.{numbered}
use Rattle.udf_tree.proofs.numbers.kept_indexes.Given as goal

abbrev pub invariant-loop-i : goal.invariant-loop-i
invariant-loop-i l = map (at_of l.held) l.indexes.items ++ map Some (numbered (drop l.i l.kept) (drop l.i l.held)) ≡ map Some (numbered l.kept l.held)
