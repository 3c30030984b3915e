use Rattle.std.proofs.Common.{◌<◌, take}
use Rattle.std.specs.BTreeMap.{get}
use Rattle.udf_tree.specs.Nodes.{IsNumbering}
use Rattle.udf_found.specs.Order.{addr_cmp}
use Rattle.udf_tree.proofs.numbers.numbers_of.Given as goal

abbrev pub invariant-loop-i : goal.invariant-loop-i
invariant-loop-i l = record {
  numbers_are : IsNumbering (take l.i l.addresses) (get addr_cmp l.numbers);
  few : l.i < 4294967296;
}
