use Rattle.std.proofs.Common.{sym, None}
use Rattle.std.specs.Ordering.{nat_cmp}
use Rattle.std.specs.BTreeMap.{get}
use Rattle.std.proofs.lemmas.Map.Keys.{ge_from_not_lt, le_from_not_gt}
use Rattle.udf_claims.proofs.Standing.{standing_greatest, standing_none, not_above}
use Rattle.udf_claims.proofs.steps.value_at.Goals as goal

pub returns-in-None : goal.returns-in-None
returns-in-None c = sym (standing_none (get nat_cmp c.args.steps.now) None c.args.x (λ q l. (c.range.ensures.in_range tt).5 c.in-None.ensures.steps.0 q (tt, not_above q c.args.x l)))

pub returns-in-Some : goal.returns-in-Some
returns-in-Some c =
    let it = (c.range.ensures.in_range tt).3 _ _ c.in-Some.ensures.steps in
    let last = (c.range.ensures.in_range tt).4 _ _ c.in-Some.ensures.steps in
    standing_greatest (get nat_cmp c.args.steps.now) None c.in-Some.field-0-0.now c.args.x c.in-Some.owner.now it.1 (le_from_not_gt _ _ it.0.1) (λ q l s. ge_from_not_lt _ _ (last q (tt, not_above q c.args.x l) s))
