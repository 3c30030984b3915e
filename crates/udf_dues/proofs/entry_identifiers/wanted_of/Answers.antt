use Rattle.std.proofs.Common.{rules}
use Rattle.udf_dues.proofs.Sorting.{wanted_long}
use Rattle.udf_dues.proofs.entry_identifiers.wanted_of.Goals as goal

pub by_address-requires : goal.by_address-requires
by_address-requires c =
    wanted_long c.args.identities.now.entries c.deref-3.result.now c.in_ok-found.found.items c.deref-2.result.now (search rules) (search rules) (search rules)
