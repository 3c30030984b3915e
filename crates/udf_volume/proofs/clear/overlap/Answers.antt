use Rattle.std.proofs.Common.{rules, refl}
use Rattle.udf_volume.proofs.Cleared.{apart_by_part, overlap_in_part}
use Rattle.udf_volume.proofs.clear.overlap.Goals as goal

pub returns-then-other-extent : goal.returns-then-other-extent
returns-then-other-extent c =
    overlap_in_part c.args.extent.at c.args.other.at c.args.extent.blocks c.args.other.blocks c.max-first.result c.min.result
    (search rules) (search rules) (search rules)

pub returns-else-other-extent : goal.returns-else-other-extent
returns-else-other-extent c =
    apart_by_part c.args.extent.at c.args.other.at c.args.extent.blocks c.args.other.blocks c.max-first.result c.max-first.result _ refl (search rules)
