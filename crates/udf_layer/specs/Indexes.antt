-- What a sparing table keeps beside its pairs.
use Rattle.std.specs.Prelude.{◌≡◌, ℕ, Bool, ◌<◌, ◌==◌, List, length, Option, find}
use Rattle.std.specs.List.{list_any}
use Rattle.std.specs.Option.{option_map}
use Rattle.std.specs.Ordering.{nat_cmp}
use Rattle.std.specs.BTreeMap.{BTreeMap, get}
use Rattle.std.specs.BTreeSet.{BTreeSet, contains}
use Rattle.udf_layer.specs.Packets.{packets_apart}

-- the packet to which the first pair of an original maps
abbrev pub mapped_from : List (ℕ × ℕ) → ℕ → Option ℕ
mapped_from pairs original = option_map (λ pair. pair.1) (find (λ pair. pair.0 == original) pairs)

-- the packets' first sectors by their originals, the set of these sectors, and whether the packets are pairwise apart
pub record HasIndexes (packet : ℕ) (pairs : List (ℕ × ℕ)) (moved : BTreeMap ℕ ℕ) (starts : BTreeSet ℕ) (apart : Bool) : Type 0 where
  pub some : 0 < packet
  pub few : length pairs < 4294967296
  pub moved_by : (q : ℕ) → get nat_cmp moved q ≡ mapped_from pairs q
  pub started : (q : ℕ) → contains nat_cmp starts q ≡ list_any (λ pair. pair.1 == q) pairs
  pub are_apart : apart ≡ packets_apart packet pairs
