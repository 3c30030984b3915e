-- Bytes that are kept by blocks of 4096. A block that is not kept is zeros.
use Rattle.std.specs.Prelude.{◌≡◌, ℕ, ◌-◌, ◌/◌, ◌%◌, List, ◌++◌, length, map, slice_index, Option, Some, None}
use Rattle.std.specs.List.{range_with_len}
use Rattle.std.specs.BTreeMap as tree
use Rattle.std.specs.BTreeMap.{BTreeMap}
use Rattle.std.specs.Ordering.{nat_cmp}

-- the block with this number, where it is kept
abbrev pub kept : BTreeMap ℕ (List ℕ) → ℕ → Option (List ℕ)
kept blocks number = tree.get nat_cmp blocks number

abbrev pub byte_of : Option (List ℕ) → ℕ → ℕ
byte_of None place = 0
byte_of (Some block) place = slice_index block place

-- the byte at an offset
abbrev pub byte_in : BTreeMap ℕ (List ℕ) → ℕ → ℕ
byte_in blocks i = byte_of (kept blocks (i / 4096)) (i % 4096)

-- so many bytes: those of the front, and behind it those of the blocks
unfoldable pub sparse_bytes : List ℕ → ℕ → BTreeMap ℕ (List ℕ) → List ℕ
sparse_bytes front len blocks = front ++ map (λ i. byte_in blocks i) (range_with_len (length front) (len - length front))

-- the same bytes at each offset of a block
abbrev pub AgreeIn : List ℕ → List ℕ → ℕ → Type 0
AgreeIn xs ys number = (i : ℕ) → i / 4096 ≡ number → slice_index xs i ≡ slice_index ys i
