use Rattle.std.proofs.Common.{arith}
use Rattle.udf_entry.proofs.Telling.{Added, told_extent}
use Rattle.udf_entry.proofs.reading.Reading.with_extent.Goals as goal

pub invariant_of-result-clause-told : goal.invariant_of-result-clause-told
invariant_of-result-clause-told c =
    let s = c.args.self in
    let e = c.in_ok-seen.ensures in
    let added : Added s.seen.runs c.in_ok-seen.seen.runs c.number_of.result 1 = record { off = e.off; outside = e.outside; only = e.only } in
    told_extent s.seen.runs c.in_ok-seen.seen.runs s.rules.size s.rules.own s.runs.items s.extents.items c.push.new.self.items c.args.at c.number_of.result
    c.in_ok-push.ensures.items c.number_of.ensures.number (omega (arith, c.number_of.ensures.low)) s.told added
