-- Lists of bytes, and the numbers in them (ECMA-167 1/7.1: the lowest byte first).
use Rattle.std.specs.Prelude.{ℕ, ◌<◌, ◌+◌, List, ◌++◌, slice_index, take, drop, length}
use Rattle.byteorder.specs.Endian.{little_number, little_bytes}

-- each item is a byte
abbrev pub IsBytes : List ℕ → Type 0
IsBytes bytes = (i : ℕ) → slice_index bytes i < 256

-- the number in the n bytes from an offset, the lowest first
unfoldable pub number_at : ℕ → List ℕ → ℕ → ℕ
number_at n bytes at = little_number n (drop at bytes)

-- these bytes written over those from an offset
unfoldable pub written_at : ℕ → List ℕ → List ℕ → List ℕ
written_at at bytes area = take at area ++ (bytes ++ drop (at + length bytes) area)

-- a number of n bytes written over those from an offset
unfoldable pub with_number : ℕ → ℕ → ℕ → List ℕ → List ℕ
with_number n at value area = take at area ++ (little_bytes n value ++ drop (at + n) area)
