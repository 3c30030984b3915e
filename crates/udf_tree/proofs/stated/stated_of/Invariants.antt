use Rattle.std.proofs.Common.{◌≡◌, map, take}
use Rattle.udf_tree.specs.Stated.{stated_in}
use Rattle.udf_tree.proofs.stated.stated_of.Given as goal

abbrev pub invariant-loop-index : goal.invariant-loop-index
invariant-loop-index l = l.stated.items ≡ map (stated_in l.held) (take l.index-index l.indexes)
