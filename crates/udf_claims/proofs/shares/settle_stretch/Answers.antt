use Rattle.std.proofs.Common.{◌∙◌, ap, cond, Option, ℕ, None, ◌&&◌, nat_le, nat_lt}
use Rattle.std.specs.Ordering.{nat_cmp}
use Rattle.std.specs.BTreeMap.{get}
use Rattle.udf_claims.specs.Shares.{sole_after}
use Rattle.udf_claims.specs.Standing.{standing}
use Rattle.udf_claims.proofs.Sharing.{first_want, other_want, own_want, kept_want}
use Rattle.udf_claims.proofs.shares.settle_stretch.Goals as goal

pub returns-in-None-clause-value : goal.returns-in-None-clause-value
returns-in-None-clause-value c = λ q. let s : Option ℕ = standing (get nat_cmp c.args.sole.now) None q in
    c.put.ensures.value q ∙ ap (λ (w : Option ℕ). cond (nat_le c.args.from q && nat_lt q c.args.to) w s) (first_want c.args.owner c.args.last s c.in-None.is)

pub returns-then-other-owner-clause-value : goal.returns-then-other-owner-clause-value
returns-then-other-owner-clause-value c = λ q. let s : Option ℕ = standing (get nat_cmp c.args.sole.now) None q in
    c.put-then-other-owner.ensures.value q ∙ ap (λ (w : Option ℕ). cond (nat_le c.args.from q && nat_lt q c.args.to) w s) (other_want c.args.owner c.in-Some.other c.args.last s c.in-Some.is c.if-other-owner.true)

pub returns-else-other-owner-clause-value : goal.returns-else-other-owner-clause-value
returns-else-other-owner-clause-value c = λ q. let s : Option ℕ = standing (get nat_cmp c.args.sole.now) None q in
    kept_want (nat_le c.args.from q && nat_lt q c.args.to) (sole_after c.args.owner c.args.last s) s (own_want c.args.owner c.in-Some.other c.args.last s c.in-Some.is c.if-other-owner.false)
