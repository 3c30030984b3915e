-- The bytes in which a bitmap of so many blocks keeps its bits.
use Rattle.std.specs.Prelude.{◌≡◌, ℕ, ◌-◌, ◌^◌, ◌<◌, ◌≤◌, false, List, length, bit_and, bit_or}
use Rattle.std.specs.Int.{bit_not, w8}
use Rattle.udf_model.specs.Bytes.{IsBytes}
use Rattle.udf_space.specs.Bits.{bytes_for, bit_of}

-- a bit for each block, and zeros past them
pub record IsStored (blocks : ℕ) (bytes : List ℕ) : Type 0 where
  pub long : length bytes ≡ bytes_for blocks
  pub small : IsBytes bytes
  pub clear : (n : ℕ) → blocks ≤ n → bit_of bytes n ≡ false

-- a byte without its bits from a place on, below another
abbrev pub kept_around : ℕ → ℕ → ℕ → ℕ
kept_around byte low high = bit_and byte (bit_or (2 ^ low - 1) (bit_not w8 (2 ^ high - 1)))

-- the bits from one on, below another, are cleared, and the others stay
pub record Clears (start end : ℕ) (old new : List ℕ) : Type 0 where
  pub long : length new ≡ length old
  pub before : (n : ℕ) → n < start → bit_of new n ≡ bit_of old n
  pub inside : (n : ℕ) → start ≤ n → n < end → bit_of new n ≡ false
  pub behind : (n : ℕ) → end ≤ n → bit_of new n ≡ bit_of old n
