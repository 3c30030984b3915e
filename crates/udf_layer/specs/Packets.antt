-- Packets of sectors to which a sparing table maps (UDF 2.50 2.2.12), and when they are spare.
use Rattle.std.specs.Prelude.{◌≡◌, ℕ, Bool, true, ◌+◌, ◌&&◌, ◌||◌, not, nat_lt, nat_le, Some, List, [], ◌∷◌}
use Rattle.std.specs.List.{list_all}
use Rattle.udf_file_model.specs.Place.{Place}

-- the sector lies in the packet of so many blocks
unfoldable pub in_packet : ℕ → ℕ → ℕ → Bool
in_packet packet first s = nat_le first s && nat_lt s (first + packet)

-- a packet is apart from that to which an entry maps
unfoldable pub packet_apart : ℕ → ℕ → ℕ × ℕ → Bool
packet_apart packet first pair = nat_le (first + packet) pair.1 || nat_le (pair.1 + packet) first

-- the packets to which entries map are pairwise apart
unfoldable pub packets_apart : ℕ → List (ℕ × ℕ) → Bool
packets_apart packet [] = true
packets_apart packet (pair ∷ pairs) = list_all (packet_apart packet pair.1) pairs && packets_apart packet pairs

-- none of the packets holds the sector
unfoldable pub outside_packets : ℕ → List (ℕ × ℕ) → ℕ → Bool
outside_packets packet pairs s = list_all (λ pair. not (in_packet packet pair.1 s)) pairs

-- the packets end at most at the last number of a sector
unfoldable pub packets_fit : ℕ → List (ℕ × ℕ) → Bool
packets_fit packet pairs = list_all (λ pair. nat_lt (pair.1 + packet) 4294967296) pairs

-- used packets over a layer below: pairwise apart, in the numbers of sectors, and none holds a sector at which the layer
-- below places a block
pub record AreSpare (packet : ℕ) (pairs : List (ℕ × ℕ)) (below : Place) : Type 0 where
  pub apart : packets_apart packet pairs ≡ true
  pub fit : packets_fit packet pairs ≡ true
  pub outside : (n s : ℕ) → below n ≡ Some s → outside_packets packet pairs s ≡ true
