use Rattle.std.proofs.Common.{ap, ◌∙◌, length}
use Rattle.udf_free.proofs.Claiming.{untaken_free, untaken_long}
use Rattle.udf_free.proofs.free.free_blocks.Goals as goal

pub returns-clause-long : goal.returns-clause-long
returns-clause-long c = ap length c.in_ok-free.ensures ∙ untaken_long c.args.survey.now.runs c.args.blocks

pub returns-clause-free : goal.returns-clause-free
returns-clause-free c = λ f v survey whole. c.in_ok-free.ensures ∙ untaken_free f v c.args.survey.now.runs c.args.blocks survey.taken whole
