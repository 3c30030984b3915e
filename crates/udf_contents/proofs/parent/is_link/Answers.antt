use Rattle.udf_kept.proofs.Hanging.{link_none}
use Rattle.udf_contents.proofs.parent.is_link.Goals as goal

pub returns-in_default : goal.returns-in_default
returns-in_default c level rank h = link_none c.args.held.now level rank c.args.choice c.args.holder c.args.place c.in_default.is h
