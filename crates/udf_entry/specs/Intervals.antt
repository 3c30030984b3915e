-- Intervals of numbers, kept in a map from their first number to their length.
use Rattle.std.specs.Prelude.{◌≡◌, ℕ, Bool, false, ◌+◌, ◌*◌, ◌<◌, ◌≤◌, Some}
use Rattle.udf_field.specs.declared.address.Addr.{Addr}
use Rattle.std.specs.BTreeMap as tree
use Rattle.std.specs.BTreeMap.{BTreeMap}
use Rattle.std.specs.Ordering.{nat_cmp}

-- no interval holds the number
abbrev pub IsOff : BTreeMap ℕ ℕ → ℕ → Type 0
IsOff runs x = (k c : ℕ) → tree.get nat_cmp runs k ≡ Some c → k ≤ x → x < k + c → ⊥

-- each has a length, and they are pairwise apart
pub record AreApart (runs : BTreeMap ℕ ℕ) : Type 0 where
  pub some : (k c : ℕ) → tree.get nat_cmp runs k ≡ Some c → 0 < c
  pub apart : (k l c d : ℕ) → tree.get nat_cmp runs k ≡ Some c → tree.get nat_cmp runs l ≡ Some d → k < l → k + c ≤ l

-- the first so many numbers from one on are in no interval, and they are all or the next is in one
pub record IsFree (runs : BTreeMap ℕ ℕ) (start count n : ℕ) : Type 0 where
  pub within : n ≤ count
  pub off : (k : ℕ) → k < n → IsOff runs (start + k)
  pub ends : n < count → IsOff runs (start + n) → ⊥

-- an address as a number; a descriptor's last block may lie past 2^32, and stays below 2^33
abbrev pub number : Addr → ℕ
number a = a.part * 8589934592 + a.block

-- the intervals hold the numbers of just those addresses
pub record Tells (runs : BTreeMap ℕ ℕ) (held : Addr → Bool) : Type 0 where
  pub off : (a : Addr) → a.block < 8589934592 → IsOff runs (number a) → held a ≡ false
  pub on : (a : Addr) → a.block < 8589934592 → held a ≡ false → IsOff runs (number a)
