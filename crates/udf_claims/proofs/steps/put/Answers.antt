use Rattle.std.proofs.Common.{None}
use Rattle.std.specs.Ordering.{nat_cmp}
use Rattle.std.specs.BTreeMap.{get}
use Rattle.udf_claims.proofs.Standing.{value_put}
use Rattle.udf_claims.proofs.steps.put.Goals as goal

pub returns-clause-value : goal.returns-clause-value
returns-clause-value c = value_put (get nat_cmp c.args.steps.now) (get nat_cmp c.clear.new.steps) (get nat_cmp c.set.new.steps) None c.args.owner c.args.from c.args.to
    c.requires.forward c.requires.end c.clear.ensures.inside c.clear.ensures.outside c.set.ensures
