use Rattle.std.proofs.Common.{◌∙◌, ap, None, Some, cond}
use Rattle.std.specs.Ordering.{nat_cmp, is_eq}
use Rattle.std.specs.BTreeMap.{get}
use Rattle.udf_claims.proofs.Standing.{standing_cut}
use Rattle.udf_claims.proofs.steps.cut.Goals as goal

pub returns-clause-same : goal.returns-clause-same
returns-clause-same c = standing_cut (get nat_cmp c.args.steps.now) (get nat_cmp c.insert.new.self) None c.args.x
    (λ q. c.in_ok-insert.ensures.updates.0 q ∙ ap (λ b. cond (is_eq (nat_cmp c.args.x q)) (Some b) (get nat_cmp c.args.steps.now q)) c.value_at-owner.ensures)
