use Rattle.std.proofs.Common.{rules}
use Rattle.std.specs.Prelude.{unwrap_or}
use Rattle.std.specs.BTreeMap.{get}
use Rattle.udf_held.specs.declared.held.Held.{Held}
use Rattle.udf_dues.specs.Numbered.{id_in}
use Rattle.udf_found.specs.Order.{addr_cmp}
use Rattle.udf_dues.proofs.Sorting.{mapped_more}
use Rattle.udf_dues.proofs.entry_identifiers.given_or_own.Goals as goal

pub loop-entry-preserved : goal.loop-entry-preserved
loop-entry-preserved c =
    mapped_more (λ (h : Held). unwrap_or (get addr_cmp c.args.given.now h.at) (id_in h.shape)) c.args.held.now c.loop-entry.entry-index c.entry-item.result c.loop-entry.ids.items c.push.new.self.items
    c.unwrap_or.result c.loop-entry-test.true c.entry-item.is c.loop-entry.invariant (search rules) (search rules)
