use Rattle.std.proofs.Common.{ℕ, ◌≡◌, ap, ◌∙◌, List}
use Rattle.std.specs.BTreeMap.{get}
use Rattle.std.specs.Ordering.{nat_cmp}
use Rattle.udf_found.specs.declared.link.Link.{Link}
use Rattle.udf_tree.specs.Path.{index_by}
use Rattle.udf_tree.proofs.Stepping.{indexes_more}
use Rattle.udf_tree.proofs.names.all_link_indexes.Goals as goal

pub loop-entry-preserved : goal.loop-entry-preserved
loop-entry-preserved c =
    let one : (q : ℕ) → get nat_cmp c.in_ok-link_indexes.field-0 q ≡ index_by c.entry-item.result.links.items q = λ q. c.in_ok-link_indexes.ensures q ∙ ap (λ (ls : List Link). index_by ls q) c.deref.ensures.value in
    indexes_more c.args.held.now c.loop-entry.entry-index c.entry-item.result c.loop-entry.indexes.items c.push.new.self.items c.in_ok-link_indexes.field-0 c.loop-entry-test.true c.entry-item.is c.in_ok-push.ensures.items one c.loop-entry.invariant
