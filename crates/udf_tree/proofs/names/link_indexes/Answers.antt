use Rattle.std.proofs.Common.{sym, ◌∙◌, ap, List}
use Rattle.std.proofs.lemmas.List.{take_all}
use Rattle.std.specs.BTreeMap.{get}
use Rattle.std.specs.Ordering.{nat_cmp}
use Rattle.udf_found.specs.declared.link.Link.{Link}
use Rattle.udf_tree.specs.Path.{index_by}
use Rattle.udf_tree.proofs.Stepping.{index_known, index_put}
use Rattle.udf_tree.proofs.names.link_indexes.Goals as goal

pub loop-i-preserved-then-contains_key : goal.loop-i-preserved-then-contains_key
loop-i-preserved-then-contains_key c =
    index_known c.args.links.now c.loop-i.i c.index-links-i.result c.loop-i-test.true c.index-links-i.is (get nat_cmp c.loop-i.indexes) c.loop-i.invariant (sym c.contains_key.ensures ∙ c.if-contains_key.true)

pub loop-i-preserved : goal.loop-i-preserved
loop-i-preserved c =
    index_put c.args.links.now c.loop-i.i c.index-links-i.result c.loop-i-test.true c.index-links-i.is (get nat_cmp c.loop-i.indexes) c.loop-i.invariant (sym c.contains_key.ensures ∙ c.if-contains_key.false)
    (get nat_cmp c.insert.new.self) c.in_ok-insert.ensures.updates.0

pub returns : goal.returns
returns c q = c.loop-i.invariant q ∙ ap (λ (ls : List Link). index_by ls q) (take_all c.loop-i.i c.args.links.now c.loop-i-test.false)
