use Rattle.std.proofs.Common.{arith, sym, ◌∙◌, None}
use Rattle.std.specs.Ordering.{nat_cmp}
use Rattle.std.specs.BTreeMap.{get}
use Rattle.udf_claims.proofs.Sharing.{same_owner}
use Rattle.udf_claims.proofs.Standing.{standing_removed}
use Rattle.udf_claims.proofs.steps.join.Goals as goal

pub returns-then-eq-clause-same : goal.returns-then-eq-clause-same
returns-then-eq-clause-same c = standing_removed (get nat_cmp c.args.steps.now) (get nat_cmp c.remove.new.steps) None c.args.x (omega arith)
    (sym c.value_at.ensures ∙ same_owner c.value_at.result c.value_at-then-x-gt0.result (sym c.eq.ensures ∙ c.if-eq.true) ∙ c.value_at-then-x-gt0.ensures) c.remove.ensures
