use Rattle.udf_top.proofs.LineLists.{none, one_more}
use Rattle.udf_top.proofs.text.add_lines.Goals as goal

pub loop-i-init : goal.loop-i-init
loop-i-init c = none c.args.text.now.items c.args.findings.now

pub loop-i-preserved : goal.loop-i-preserved
loop-i-preserved c = one_more _ _ _ c.args.findings.now c.loop-i.i _ c.get.ensures c.loop-i.invariant c.in_ok-add_line.ensures
