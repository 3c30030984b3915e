use Rattle.udf_tree.proofs.Naming.{numbered_over}
use Rattle.udf_tree.specs.Nodes.{numbered}
use Rattle.udf_tree.proofs.numbers.kept_addresses.Goals as goal

pub returns : goal.returns
returns c =
    numbered_over c.args.held.now c.args.kept.now c.loop-i.i c.loop-i.addresses.items (numbered c.args.kept.now c.args.held.now) c.loop-i-test.false c.loop-i.invariant
