use Rattle.std.proofs.Common.{◌≡◌, ◌++◌, take}
use Rattle.std.specs.List.{flat_map}
use Rattle.udf_file_rules.specs.SeenContents.{content_at}
use Rattle.udf_file_rules.proofs.contents.check_contents.Given as goal

abbrev pub invariant-loop-id : goal.invariant-loop-id
invariant-loop-id l = l.findings ≡ l.initial.findings ++ flat_map (content_at l.survey) (take l.id-index l.order)
