use Rattle.std.proofs.Common.{sym}
use Rattle.udf_wanted.proofs.Walking.{nothing_added, one_added}
use Rattle.udf_wanted.proofs.difference.add_difference.Goals as goal

pub returns-then-is_same : goal.returns-then-is_same
returns-then-is_same c = nothing_added c.args.plan.now c.args.sector c.args.now.now c.args.wanted.now (sym c.if-is_same.ensures)

pub returns : goal.returns
returns c = one_added c.args.plan.now c.push.new.self c.args.sector c.args.now.now c.args.wanted.now (sym c.if-is_same.ensures) c.in_ok-push.ensures.pushed
