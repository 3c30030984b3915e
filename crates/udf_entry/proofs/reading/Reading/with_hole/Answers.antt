use Rattle.std.proofs.Common.{◌∙◌}
use Rattle.udf_entry.proofs.Telling.{bytes_more, part_more, told_hole}
use Rattle.udf_entry.proofs.reading.Reading.with_hole.Goals as goal

pub invariant_of-result-clause-summed : goal.invariant_of-result-clause-summed
invariant_of-result-clause-summed c =
    bytes_more c.args.self.runs.items c.push.new.self.items c.args.run c.args.self.total c.in_ok-push.ensures.items c.args.self.summed

pub invariant_of-result-clause-marked : goal.invariant_of-result-clause-marked
invariant_of-result-clause-marked c =
    c.also_part.ensures ∙ part_more c.args.self.rules.size c.args.self.runs.items c.push.new.self.items c.args.run c.args.self.parted c.in_ok-push.ensures.items c.args.self.marked

pub invariant_of-result-clause-told : goal.invariant_of-result-clause-told
invariant_of-result-clause-told c =
    let s = c.args.self in
    told_hole s.seen.runs s.rules.size s.rules.own s.runs.items c.push.new.self.items s.extents.items c.args.run c.in_ok-push.ensures.items c.requires.hole s.told
