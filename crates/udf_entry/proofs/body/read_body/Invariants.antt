use Rattle.std.proofs.Common.{◌≡◌}
use Rattle.udf_file_model.specs.Descriptors.{descriptor_at}
use Rattle.udf_entry.proofs.Walking.{InBody}
use Rattle.udf_entry.specs.ReadingView.{past_of, rules_seen}
use Rattle.udf_entry.proofs.body.read_body.Given as goal

abbrev pub invariant-loop-i : goal.invariant-loop-i
invariant-loop-i g l = record {
  body : InBody (rules_seen l.initial.reading.rules (g.P.Parts.place l.parts)) (descriptor_at l.kind l.holder l.body) l.count (past_of l.initial.reading) (past_of l.reading) l.i;
  rules : l.reading.rules ≡ l.initial.reading.rules;
  extents : l.reading.extents.items ≡ l.initial.reading.extents.items;
}
