use Rattle.std.proofs.Common.{◌≡◌, ◌++◌, take}
use Rattle.std.specs.List.{flat_map}
use Rattle.udf_file_rules.specs.Seen.{count_at}
use Rattle.udf_file_rules.proofs.link_counts.check_link_counts.Given as goal

abbrev pub invariant-loop-id : goal.invariant-loop-id
invariant-loop-id l = l.findings ≡ l.initial.findings ++ flat_map (count_at l.survey) (take l.id-index l.order)
