use Rattle.udf_volume.proofs.Stretched.{one_more}
use Rattle.udf_volume.proofs.fixed.Fixed.with.Goals as goal

pub returns-in-Some-clause-stretches : goal.returns-in-Some-clause-stretches
returns-in-Some-clause-stretches c =
    one_more c.args.self.stretches c.in-Some.more c.args.stretch c.push.result c.in-Some.is c.push.ensures.stretches
