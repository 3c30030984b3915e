use Rattle.std.proofs.Common.{◌≡◌, ◌≤◌, ◌<◌, ◌+◌, ◌-◌, ℕ, true}
use Rattle.std.specs.Ordering.{nat_cmp}
use Rattle.std.specs.BTreeSet.{contains, btree_set_len}
use Rattle.udf_dues.proofs.identifiers.first_free.Given as goal

abbrev pub invariant-loop-next : goal.invariant-loop-next
invariant-loop-next l = record {
  low : l.from ≤ l.next;
  between : (m : ℕ) → l.from ≤ m → m < l.next → contains nat_cmp l.set m ≡ true;
}

abbrev pub decreases-loop-next : goal.decreases-loop-next
decreases-loop-next l = l.from + btree_set_len l.set - l.next
