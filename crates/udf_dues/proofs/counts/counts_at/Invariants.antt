use Rattle.std.proofs.Common.{◌≡◌, map, take}
use Rattle.udf_dues.specs.Counts.{count_in}
use Rattle.udf_dues.proofs.counts.counts_at.Given as goal

abbrev pub invariant-loop-index : goal.invariant-loop-index
invariant-loop-index l = l.those.items ≡ map (count_in l.counts) (take l.index-index l.indexes)
