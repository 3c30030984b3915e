use Rattle.std.proofs.Common.{arith, refl}
use Rattle.udf_entry.specs.ReadingView.{past_of, rules_seen}
use Rattle.udf_entry.proofs.Telling.{new_run}
use Rattle.udf_entry.proofs.reading.Reading.new_blocks.Goals as goal

pub returns : goal.returns
returns g c =
    let place = g.P.Parts.place c.args.parts.now in
    new_run (rules_seen c.args.self.now.rules place) (past_of c.args.self.now) place c.args.self.now.seen.runs c.args.at c.number_of.result c.args.count
    c.placed-placed.result c.free_from.result (λ a. refl) c.number_of.ensures.number (omega (arith, c.number_of.ensures.low)) (omega arith)
    c.args.self.now.told c.placed-placed.ensures c.free_from.ensures
