-- The bits of a space bitmap and the bytes that hold them (ECMA-167 4/14.12.4): one bit a block, 1 for a free block.
use Rattle.std.specs.Prelude.{ℕ, ◌+◌, ◌*◌, ◌/◌, ◌%◌, ◌==◌, Bool, not, if◌then◌else◌, List, [], ◌∷◌, length, take, drop, map, slice_index}
use Rattle.std.specs.List.{range_with_len}
use Rattle.std.specs.Int.{bit_at}

-- 4/14.12.3: the bytes that so many bits take
abbrev pub bytes_for : ℕ → ℕ
bytes_for blocks = (blocks + 7) / 8

-- 4/14.12.4: bit n is bit n % 8 of byte n / 8, the least significant bit of a byte first
unfoldable pub bit_of : List ℕ → ℕ → Bool
bit_of bytes n = bit_at (slice_index bytes (n / 8)) (n % 8) == 1

-- the first bits of some bytes
unfoldable pub bits_of : ℕ → List ℕ → List Bool
bits_of blocks bytes = map (bit_of bytes) (range_with_len 0 blocks)

-- the byte of up to eight bits, the first of them the least significant, with zeros past them
abbrev pub byte_of : List Bool → ℕ
byte_of [] = 0
byte_of (bit ∷ bits) = (if bit then 1 else 0) + 2 * byte_of bits

-- the bytes of bits, eight to a byte, with zeros past the last bit
unfoldable pub packed : List Bool → List ℕ
packed bits = map (λ k. byte_of (take 8 (drop (8 * k) bits))) (range_with_len 0 (bytes_for (length bits)))

-- one of two bits alone is set
abbrev pub differ : Bool → Bool → Bool
differ one two = if one then not two else two
