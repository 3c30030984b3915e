use Rattle.std.proofs.Common.{◌≡◌, Vec, Global, rules}
use Rattle.std.specs.Map.{values_of}
use Rattle.std.proofs.lemmas.Result.{IfOk-weaker}
use Rattle.udf_tree.specs.declared.node.NodeId.{NodeId}
use Rattle.udf_tree.specs.Ordered.{AreInOrder}
use Rattle.udf_tree.proofs.Sequencing.{in_order_by}
use Rattle.udf_tree.proofs.numbers.in_order.Goals as goal

pub returns : goal.returns
returns c addresses n =
    IfOk-weaker c.collect.result (λ (ids : Vec NodeId Global). ids.items ≡ values_of c.args.numbers.now.entries) (λ (ids : Vec NodeId Global). AreInOrder addresses ids.items)
    (λ ids e. in_order_by addresses c.args.numbers.now c.values.ensures.ordered n ids.items e)
    (search rules)
