use Rattle.std.proofs.Common.{◌≡◌, ◌≤◌, ◌+◌, take}
use Rattle.std.specs.List.{flat_map}
use Rattle.udf_file_rules.specs.Tallied.{ordinary_at, tally_of}
use Rattle.udf_file_rules.proofs.tally.tally_of.Given as goal

abbrev pub invariant-loop-id : goal.invariant-loop-id
invariant-loop-id l = record {
  counted : l.tally ≡ tally_of (flat_map (ordinary_at l.survey) (take l.id-index l.order));
  few : l.tally.files + l.tally.directories ≤ l.id-index;
}
