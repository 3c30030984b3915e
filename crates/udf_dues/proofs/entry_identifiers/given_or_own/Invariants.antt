use Rattle.std.proofs.Common.{◌≡◌, map, take}
use Rattle.std.specs.Prelude.{unwrap_or}
use Rattle.std.specs.BTreeMap.{get}
use Rattle.udf_dues.specs.Numbered.{id_in}
use Rattle.udf_found.specs.Order.{addr_cmp}
use Rattle.udf_dues.proofs.entry_identifiers.given_or_own.Given as goal

abbrev pub invariant-loop-entry : goal.invariant-loop-entry
invariant-loop-entry l = l.ids.items ≡ map (λ h. unwrap_or (get addr_cmp l.given h.at) (id_in h.shape)) (take l.entry-index l.held)
