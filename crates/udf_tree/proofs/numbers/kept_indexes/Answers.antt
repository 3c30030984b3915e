use Rattle.std.proofs.Common.{◌≡◌, true, Some, map, rules}
use Rattle.udf_kept.specs.Fitted.{at_of}
use Rattle.udf_tree.specs.Nodes.{is_numbered, numbered}
use Rattle.udf_tree.proofs.Naming.{indexes_over, indexes_put}
use Rattle.udf_tree.proofs.numbers.kept_indexes.Goals as goal

pub loop-i-preserved : goal.loop-i-preserved
loop-i-preserved c =
    let numbered_it : is_numbered c.index-held-i.result c.keeping_at.result ≡ true = search rules in
    indexes_put c.args.held.now c.args.kept.now c.loop-i.i c.index-held-i.result c.keeping_at.result c.loop-i.indexes.items c.push.new.self.items (map Some (numbered c.args.kept.now c.args.held.now))
    c.loop-i-test.true c.index-held-i.is c.keeping_at.ensures numbered_it c.in_ok-push.ensures.items c.loop-i.invariant

pub returns : goal.returns
returns c =
    indexes_over c.args.held.now c.args.kept.now c.loop-i.i (map (at_of c.args.held.now) c.loop-i.indexes.items) (map Some (numbered c.args.kept.now c.args.held.now)) c.loop-i-test.false c.loop-i.invariant
