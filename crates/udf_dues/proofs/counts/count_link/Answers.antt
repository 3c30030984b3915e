use Rattle.std.proofs.Common.{refl, arith, rules}
use Rattle.udf_dues.specs.Marks.{always}
use Rattle.udf_dues.proofs.Tallying.{mark_taken}
use Rattle.udf_dues.proofs.counts.count_link.Goals as goal

pub returns-then-to-counts : goal.returns-then-to-counts
returns-then-to-counts c ms h =
    mark_taken ms c.args.counts.now c.args.to (always c.args.to) refl _ (omega arith) (search rules) (search rules) h
