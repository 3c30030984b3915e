use Rattle.std.proofs.Common.{◌∙◌}
use Rattle.udf_file_plan.proofs.Leaving.{further_none, further_some}
use Rattle.udf_file_plan.proofs.mend.first_further.Goals as goal

pub returns-then-bytes-eq0 : goal.returns-then-bytes-eq0
returns-then-bytes-eq0 c = further_none c.args.bytes _ c.if-bytes-eq0.true

pub returns : goal.returns
returns c = c.further_at.ensures ∙ further_some c.args.bytes _ c.if-bytes-eq0.false
