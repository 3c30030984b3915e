use Rattle.std.proofs.Common.{◌≡◌, ◌+◌, ◌-◌, ◌*◌, ◌/◌, length}
use Rattle.udf_outside.specs.Stops.{bytes_of}
use Rattle.udf_outside.specs.declared.bench.Role.TheVariants.{Image}
use Rattle.udf_entry.proofs.Few.{Spread}
use Rattle.udf_entry.specs.ReadingView.{past_of, rules_seen}
use Rattle.udf_file_model.specs.Listing.{volume_of}
use Rattle.udf_entry.proofs.Lists.{IsLeft, weight}
use Rattle.udf_entry.proofs.chain.read_list.Given as goal

abbrev pub invariant-list : goal.invariant-list
invariant-list g l = record {
  left : g.B.Bench.tells
      → IsLeft (rules_seen l.fn.start.rules (g.P.Parts.place l.parts)) (volume_of l.fn.start.rules.size (bytes_of Image (g.B.Bench.held l.initial.bench)) (g.P.Parts.place l.parts)) l.kind l.body (past_of l.fn.start) (past_of l.reading) l.next;
  spread : Spread (g.P.Parts.place l.parts) ((g.B.Bench.files l.initial.bench).image.size / l.fn.start.rules.size) l.reading.extents.items;
  rules : l.reading.rules ≡ l.fn.start.rules;
  room : length l.block ≡ l.fn.start.rules.size;
  files : g.B.Bench.files l.bench ≡ g.B.Bench.files l.initial.bench;
  held : g.B.Bench.held l.bench ≡ g.B.Bench.held l.initial.bench;
  calm : g.B.Bench.faults l.bench ≡ g.B.Bench.faults l.initial.bench;
}

abbrev pub decreases-list : goal.decreases-list
decreases-list g l = weight l.next + (2 * ((g.B.Bench.files l.initial.bench).image.size / l.fn.start.rules.size) - length l.reading.extents.items)
