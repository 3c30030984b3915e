use Rattle.std.proofs.Common.{◌≡◌, ℕ, map, take}
use Rattle.std.specs.BTreeMap.{get}
use Rattle.udf_field.specs.declared.address.Addr.{Addr}
use Rattle.udf_dues.specs.Numbered.{given_of}
use Rattle.udf_found.specs.Order.{addr_cmp}
use Rattle.udf_dues.proofs.entry_identifiers.by_address.Given as goal

abbrev pub invariant-loop-i : goal.invariant-loop-i
invariant-loop-i l = (of : Addr → ℕ) → l.ids ≡ map of l.addresses → (a : Addr) → get addr_cmp l.given a ≡ given_of of (take l.i l.addresses) a
