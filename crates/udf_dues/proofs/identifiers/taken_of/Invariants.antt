use Rattle.std.proofs.Common.{◌≡◌, ◌≤◌, ℕ, take}
use Rattle.std.specs.Ordering.{nat_cmp}
use Rattle.std.specs.List.{list_any}
use Rattle.std.specs.BTreeSet.{contains, btree_set_len}
use Rattle.udf_dues.specs.Identifiers.{is_id}
use Rattle.udf_dues.proofs.identifiers.taken_of.Given as goal

abbrev pub invariant-loop-id : goal.invariant-loop-id
invariant-loop-id l = record {
  taken : (n : ℕ) → contains nat_cmp l.set n ≡ list_any (is_id n) (take l.id-index l.ids);
  len : btree_set_len l.set ≤ l.id-index;
}
