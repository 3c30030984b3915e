use Rattle.udf_free.proofs.Claiming.{all_claimed}
use Rattle.udf_free.proofs.free.unclaimed_blocks.Goals as goal

pub returns : goal.returns
returns c = all_claimed c.args.survey.now.runs c.args.blocks c.loop-taken.next c.loop-taken.free c.loop-taken.invariant c.in_default.ensures
