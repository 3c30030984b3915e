use Rattle.std.proofs.Common.{◌≡◌, get_or}
use Rattle.udf_dues.specs.Counts.{count_in}
use Rattle.udf_dues.proofs.Elements.{read_at}
use Rattle.udf_dues.proofs.Sorting.{mapped_more}
use Rattle.udf_dues.proofs.counts.counts_at.Goals as goal

pub loop-index-preserved : goal.loop-index-preserved
loop-index-preserved c =
    let j = c.loop-index.index-index in
    let i = get_or c.args.indexes.now j 0 in
    let is : i ≡ get_or c.args.indexes.now j i = read_at c.args.indexes.now j 0 i c.loop-index-test.true in
    mapped_more (count_in c.args.counts.now) c.args.indexes.now j i c.loop-index.those.items c.push.new.self.items c.count_at.result c.loop-index-test.true is c.loop-index.invariant c.in_ok-push.ensures.items c.count_at.ensures
