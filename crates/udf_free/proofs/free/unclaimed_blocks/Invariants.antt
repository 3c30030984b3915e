use Rattle.std.proofs.Common.{◌-◌}
use Rattle.udf_free.proofs.Claiming.{IsClaimedTo}
use Rattle.udf_free.proofs.free.unclaimed_blocks.Given as goal

abbrev pub invariant-loop-taken : goal.invariant-loop-taken
invariant-loop-taken l = IsClaimedTo l.survey.runs l.blocks l.next l.free

abbrev pub decreases-loop-taken : goal.decreases-loop-taken
decreases-loop-taken l = l.blocks - l.next
