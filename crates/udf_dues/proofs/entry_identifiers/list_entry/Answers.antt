use Rattle.std.proofs.Common.{◌≡◌, ◌∙◌, ap, rules, true}
use Rattle.std.specs.BTreeMap.{insert_entry}
use Rattle.udf_dues.specs.declared.identifiers.Identity.{Identity}
use Rattle.udf_found.specs.Order.{addr_cmp}
use Rattle.udf_dues.proofs.Sorting.{lists_more}
use Rattle.udf_dues.proofs.entry_identifiers.list_entry.Goals as goal

pub returns-in_ok-insert : goal.returns-in_ok-insert
returns-in_ok-insert c hs was =
    let t : c.args.is_ordinary ≡ true = search rules in
    lists_more c.args.root hs c.args.entry.now c.args.is_ordinary c.args.identities.now.entries c.insert.new.self.entries t c.insert.ensures.ordered
    (c.in_ok-insert.ensures.entries ∙ ap (λ (x : Identity). insert_entry addr_cmp c.args.identities.now.entries c.args.entry.now.at x) c.identity_of.ensures) was
