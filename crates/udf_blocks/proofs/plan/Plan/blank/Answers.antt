use Rattle.std.proofs.Common.{List, sym, subst}
use Rattle.udf_blocks.specs.Planned.{IsLawful}
use Rattle.udf_blocks.specs.Recorded.{recorded}
use Rattle.udf_blocks.specs.declared.plan.Placed.{Placed}
use Rattle.udf_blocks.proofs.Growing.{none}
use Rattle.udf_blocks.proofs.plan.Plan.blank.Goals as goal

pub invariant_of-result : goal.invariant_of-result
invariant_of-result c =
    subst (λ (xs : List Placed). IsLawful (record { size = c.args.size; blocks = recorded xs })) (sym c.new.ensures.items) (none c.args.size)
