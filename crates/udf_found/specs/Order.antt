-- The order of addresses, and which addresses found entries have.
use Rattle.std.specs.Prelude.{Bool, List, map}
use Rattle.std.specs.List.{list_any}
use Rattle.std.specs.Ordering.{nat_cmp, ordering_then}
use Rattle.std.specs.declared.cmp.Ordering.{Ordering}
use Rattle.udf_field.specs.declared.address.Addr.{Addr}
use Rattle.udf_file_model.specs.Address.{same_addr}
use Rattle.udf_found.specs.declared.arena.Found.{Found}

-- by reference, and then by block
abbrev pub addr_cmp : Addr → Addr → Ordering
addr_cmp a b = ordering_then (nat_cmp a.part b.part) (nat_cmp a.block b.block)

-- one of the found entries stands at the address
abbrev pub is_known : Addr → List Found → Bool
is_known a q = list_any (same_addr a) (map (λ n. n.at) q)
