use Rattle.udf_volume_laws.proofs.OnePlan.{the_plan, plan_is}
use Rattle.udf_volume_laws.proofs.Applied.{plan_gives, mended_rewrites}
use Rattle.udf_volume_laws.proofs.plan_law.Goals as goal

pub returns-clause-exact : goal.returns-clause-exact
returns-clause-exact c = plan_is

pub returns-clause-one : goal.returns-clause-one
returns-clause-one c = the_plan

pub returns-clause-applied : goal.returns-clause-applied
returns-clause-applied c = plan_gives

pub returns-clause-mended : goal.returns-clause-mended
returns-clause-mended c = mended_rewrites
