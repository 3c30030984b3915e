-- No pair has nothing kept.
use Rattle.udf_layer.proofs.Kept.{none_kept}
use Rattle.udf_layer.proofs.table.SparingTable.new.Goals as goal

pub invariant_of-result : goal.invariant_of-result
invariant_of-result c =
    none_kept c.args.packet c.new.result.items c.new-2.result c.new-3.result c.requires c.new.ensures.items c.new-2.ensures.empty c.new-3.ensures.empty
