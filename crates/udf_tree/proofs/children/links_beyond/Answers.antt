use Rattle.std.proofs.Common.{leb, rules}
use Rattle.std.proofs.lemmas.List.Sorted.{IsPartitionPoint-from_clause, IsPartitionedBy-leb}
use Rattle.udf_tree.proofs.Kindred.{beyond_slice}
use Rattle.udf_tree.proofs.children.links_beyond.Goals as goal

pub returns : goal.returns
returns c h =
    let parted = IsPartitionedBy-leb (λ x. x.place) _ c.args.place h in
    let point = IsPartitionPoint-from_clause (λ x. leb x.place c.args.place) _ _ c.partition_point-first.ensures.partitioned parted (λ a r q k. search rules) in
    beyond_slice c.args.place c.partition_point-first.result c.args.links.now point c.partition_point-first.ensures.bound
