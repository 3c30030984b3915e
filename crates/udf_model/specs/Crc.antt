-- Polynomials over two elements are numbers: bit k of a number is the coefficient of x^k. The sum of
-- two is bit_xor, and a polynomial times x^k is the number times 2 ^ k.
use Rattle.std.specs.Prelude.{◌≡◌, ℕ, ◌+◌, ◌*◌, ◌^◌, ◌<◌, nat_lt, if◌then◌else◌, bit_xor, List, fold}

-- the polynomial of bytes, the highest bit of the first byte first
abbrev pub polynomial : List ℕ → ℕ
polynomial bytes = fold (λ p byte. p * 2 ^ 8 + byte) 0 bytes

-- q times x^16 + x^12 + x^5 + 1
unfoldable pub times_generator : ℕ → ℕ
times_generator q = bit_xor (bit_xor (q * 2 ^ 16) (q * 2 ^ 12)) (bit_xor (q * 2 ^ 5) q)

-- r is the remainder of p on division by x^16 + x^12 + x^5 + 1
pub record IsRemainder (p r : ℕ) : Type 0 where
  pub below : r < 2 ^ 16
  pub quotient : ℕ
  pub division : p ≡ bit_xor (times_generator quotient) r

-- ECMA-167 3/7.2.6: the CRC of bytes is the remainder of their polynomial times x^16
abbrev pub IsCrc : List ℕ → ℕ → Type 0
IsCrc bytes r = IsRemainder (polynomial bytes * 2 ^ 16) r

-- r times x, reduced, for r below 2 ^ 16
unfoldable pub times_x : ℕ → ℕ
times_x r = if nat_lt r (2 ^ 15) then r * 2 else bit_xor (r * 2) 69665

unfoldable pub times_x8 : ℕ → ℕ
times_x8 r = times_x (times_x (times_x (times_x (times_x (times_x (times_x (times_x r)))))))

-- the CRC by Horner's scheme; `crc_law` says that it is the one remainder
unfoldable pub crc_of : List ℕ → ℕ
crc_of bytes = fold (λ r byte. times_x8 (bit_xor r (byte * 2 ^ 8))) 0 bytes
