use Rattle.std.proofs.Common.{◌≡◌, ◌++◌, ℕ, take, drop, nat_eq, map}
use Rattle.std.specs.Ordering.{nat_cmp}
use Rattle.std.specs.List.{list_any}
use Rattle.std.specs.BTreeSet.{contains}
use Rattle.udf_dues.specs.Identifiers.{settled, settled_from}
use Rattle.udf_dues.proofs.identifiers.settle.Given as goal

abbrev pub invariant-loop-identity : goal.invariant-loop-identity
invariant-loop-identity l = record {
  seen : (n : ℕ) → contains nat_cmp l.seen n ≡ list_any (nat_eq n) (map (λ x. x.id) (take l.identity-index l.identities));
  rest : l.ids.items ++ settled_from (map (λ x. x.id) (take l.identity-index l.identities)) (drop l.identity-index l.identities) ≡ settled l.identities;
}
