use Rattle.std.proofs.Common.{◌≡◌, ◌++◌, take}
use Rattle.std.specs.List.{flat_map}
use Rattle.udf_file_rules.specs.SeenLinks.{targets_above}
use Rattle.udf_file_rules.proofs.targets.add_higher.Given as goal

abbrev pub invariant-loop-id : goal.invariant-loop-id
invariant-loop-id l = l.findings ≡ l.initial.findings ++ flat_map (targets_above l.survey l.than) (take l.id-index l.order)
