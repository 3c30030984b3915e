use Rattle.udf_contents.proofs.Mending.{mended_there, need_sound, needs, stays_there}
use Rattle.udf_contents.proofs.contents.content_for.Goals as goal

pub returns-in_default-clause-content : goal.returns-in_default-clause-content
returns-in_default-clause-content g c tells f v hs k e i o starts m steps = stays_there f v c.args.entry.now k c.args.mend m c.in_default.is

pub returns-clause-content : goal.returns-clause-content
returns-clause-content g c tells f v hs k e i o starts m steps =
    let n = needs f v c.args.entry.now k c.args.mend c.in-Some.above m c.in-Some.is in
    mended_there f v c.args.entry.now k c.args.mend c.in-Some.above c.in_ok-content.content m c.in-Some.is
    (c.in_ok-content.ensures.content tells f v hs e i o n (steps (need_sound f v c.args.entry.now c.in-Some.above i starts n)))
