-- Where the blocks of a partition stand in the image: a place is a function from a block to its sector (ECMA-167 3/10.7,
-- UDF 2.50 2.2.8 to 2.2.11).
use Rattle.std.specs.Prelude.{◌≡◌, ℕ, ◌+◌, ◌-◌, ◌%◌, ◌<◌, ◌≤◌, ◌==◌, nat_lt, if◌then◌else◌, is_some, Option, Some, None, IsSome, List}
use Rattle.std.specs.List.{find, prefix_len, range_with_len}

abbrev pub Place : Type 0
Place = ℕ → Option ℕ

-- a block that stands nowhere
abbrev pub nowhere : Place
nowhere n = None

-- block n stands at sector start + n, for n below the length
unfoldable pub physical_place : ℕ → ℕ → Place
physical_place start count n = if nat_lt n count then Some (start + n) else None

-- the first block of block n's packet
abbrev pub packet_start : ℕ → ℕ → ℕ
packet_start packet n = n - n % packet

-- UDF 2.2.11: an entry maps an original packet, by its first block, to a packet of sectors, by its first sector; the distance in
-- the packet stays
abbrev pub moved_to : ℕ → Option (ℕ × ℕ) → Option ℕ
moved_to distance None = None
moved_to distance (Some pair) = Some (pair.1 + distance)

-- the first entry of block n's packet counts
unfoldable pub spared_to : ℕ → List (ℕ × ℕ) → ℕ → Option ℕ
spared_to packet pairs n = moved_to (n % packet) (find (λ pair. pair.0 == packet_start packet n) pairs)

abbrev pub or_else : Option ℕ → Option ℕ → Option ℕ
or_else None other = other
or_else (Some s) other = Some s

-- block n stands in the packet to which its packet is mapped, else as in the layer below
unfoldable pub sparable_place : ℕ → List (ℕ × ℕ) → ℕ → Place → Place
sparable_place packet pairs count below n = if nat_lt n count then or_else (spared_to packet pairs n) (below n) else None

-- how many of so many blocks from one on stand at sectors before the first that does not
unfoldable pub placed_front : Place → ℕ → ℕ → ℕ
placed_front place block blocks = prefix_len (λ n. is_some (place n)) (range_with_len block blocks)

-- n of the blocks are placed, and they are all or the next is not placed; `place_law` says that this is that one number
pub record IsPlacedFront (place : Place) (block blocks n : ℕ) : Type 0 where
  pub within : n ≤ blocks
  pub placed : (i : ℕ) → i < n → IsSome (place (block + i))
  pub ends : n < blocks → place (block + n) ≡ None
