-- Kept entries in the order of their addresses.
use Rattle.std.specs.Prelude.{◌≡◌, List, map, Some, slice_get}
use Rattle.std.specs.List.Sorted.{IsStrictlySortedBy}
use Rattle.udf_field.specs.declared.address.Addr.{Addr}
use Rattle.udf_tree_model.specs.Among.{Member}
use Rattle.udf_tree.specs.declared.node.NodeId.{NodeId}
use Rattle.udf_found.specs.Order.{addr_cmp}

-- these are the numbers of all addresses, in the order of these
pub record AreInOrder (numbers : List Addr) (order : List NodeId) : Type 0 where
  pub addresses : List Addr
  pub named : map (λ id. slice_get numbers id.0) order ≡ map Some addresses
  pub ascend : IsStrictlySortedBy addr_cmp addresses
  pub there : (a : Addr) → Member a addresses → Member a numbers
  pub all : (a : Addr) → Member a numbers → Member a addresses
