use Rattle.std.proofs.Common.{◌≡◌, ◌++◌, drop}
use Rattle.udf_tree.specs.Nodes.{numbered}
use Rattle.udf_tree.proofs.numbers.kept_addresses.Given as goal

abbrev pub invariant-loop-i : goal.invariant-loop-i
invariant-loop-i l = l.addresses.items ++ numbered (drop l.i l.kept) (drop l.i l.held) ≡ numbered l.kept l.held
