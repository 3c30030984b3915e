use Rattle.std.proofs.Common.{arith}
use Rattle.udf_entry.proofs.Telling.{Added, nothing_seen}
use Rattle.udf_entry.proofs.reading.Reading.new.Goals as goal

pub add-requires-clause-off : goal.add-requires-clause-off
add-requires-clause-off c x l u = c.new.ensures x

pub invariant_of-result-clause-told : goal.invariant_of-result-clause-told
invariant_of-result-clause-told c =
    let e = c.in_ok-seen.ensures in
    let added : Added c.new.result.runs c.in_ok-seen.seen.runs c.number_of.result 1 = record { off = e.off; outside = e.outside; only = e.only } in
    nothing_seen c.new.result.runs c.in_ok-seen.seen.runs c.args.rules.size c.args.rules.own c.number_of.result c.new-2.result.items c.new-3.result.items
    c.number_of.ensures.number (omega (arith, c.number_of.ensures.low)) c.new.ensures added c.new-2.ensures.items c.new-3.ensures.items
