use Rattle.std.proofs.Common.{◌∙◌, sym, subst, ℕ, List}
use Rattle.udf_redo.specs.Settled.{settled}
use Rattle.udf_intact.specs.Images.{KeepsPathAs}
use Rattle.udf_top.proofs.Rerun.{chained, target_keeps}
use Rattle.udf_top.proofs.laws.chain_law.Goals as goal

pub returns-clause-target : goal.returns-clause-target
returns-clause-target c = chained

pub returns-clause-ends : goal.returns-clause-ends
returns-clause-ends c = λ size start pairs end left done. done.holds ∙ chained size start pairs left

pub returns-clause-paths : goal.returns-clause-paths
returns-clause-paths c = λ given size start pairs end known bytes sized left done steps intact.
    subst (λ (after : List ℕ). KeepsPathAs given (settled start) after steps) (sym (done.holds ∙ chained given start pairs left))
    (target_keeps given size start known bytes sized steps intact)
