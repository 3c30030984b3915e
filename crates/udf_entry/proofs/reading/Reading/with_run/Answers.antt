use Rattle.std.proofs.Common.{arith, ◌∙◌}
use Rattle.udf_file_model.specs.Front.{stood}
use Rattle.udf_entry.specs.RunView.{past_seen}
use Rattle.udf_entry.proofs.Telling.{Added, off_numbers, bytes_more, part_more, told_run}
use Rattle.udf_entry.proofs.reading.Reading.with_run.Goals as goal

pub add-requires-clause-off : goal.add-requires-clause-off
add-requires-clause-off c x l u =
    let s = c.args.self in
    off_numbers s.seen.runs (stood s.rules.size s.rules.own (past_seen s.runs.items s.extents.items)) c.args.run.at c.number_of.result c.blocks_of-blocks.result _
    c.number_of.ensures.number c.blocks_of-blocks.ensures s.told (omega (arith, c.number_of.ensures.low, c.blocks_of-blocks.ensures)) c.requires.free x l u

pub invariant_of-result-clause-summed : goal.invariant_of-result-clause-summed
invariant_of-result-clause-summed c =
    bytes_more c.args.self.runs.items c.push.new.self.items c.args.run c.args.self.total c.in_ok-push.ensures.items c.args.self.summed

pub invariant_of-result-clause-marked : goal.invariant_of-result-clause-marked
invariant_of-result-clause-marked c =
    c.also_part.ensures ∙ part_more c.args.self.rules.size c.args.self.runs.items c.push.new.self.items c.args.run c.args.self.parted c.in_ok-push.ensures.items c.args.self.marked

pub invariant_of-result-clause-told : goal.invariant_of-result-clause-told
invariant_of-result-clause-told c =
    let s = c.args.self in
    let e = c.in_ok-seen.ensures in
    let added : Added s.seen.runs c.in_ok-seen.seen.runs c.number_of.result c.blocks_of-blocks.result = record { off = e.off; outside = e.outside; only = e.only } in
    told_run s.seen.runs c.in_ok-seen.seen.runs s.rules.size s.rules.own s.runs.items c.push.new.self.items s.extents.items c.args.run c.number_of.result c.blocks_of-blocks.result
    c.in_ok-push.ensures.items c.number_of.ensures.number c.blocks_of-blocks.ensures c.requires.hole (omega (arith, c.number_of.ensures.low, c.blocks_of-blocks.ensures)) s.told added
