-- The bytes of bits, bit by bit.
use Rattle.std.proofs.Common.{◌≡◌, ℕ, zero, suc, ◌+◌, ◌*◌, ◌/◌, ◌%◌, ◌^◌, ◌<◌, ◌≤◌, arith, refl, sym, ◌∙◌, ap, Bool, true, false, eqb, List, [], ◌∷◌, ◌++◌, length, take, drop, get_or, ⊎_elim}
use Rattle.std.specs.Int.{bit_at}
use Rattle.std.proofs.lemmas.Nat.{pow_pos}
use Rattle.std.proofs.lemmas.Nat.Bits.{bit_at_lowest, bit_at-suc, bit_at-zero, bit_at-lt, same_from_bits_below}
use Rattle.std.proofs.lemmas.Bool.{cases_lt}
use Rattle.std.proofs.lemmas.List.{get_or_past, get_or-take, get_or-drop, length-take, get_or_append_left, ext_get_or}
use Rattle.std.proofs.lemmas.List.FromFn.{length-map-range_with_len, get_or-map-range_with_len}
use Rattle.udf_model.specs.Bytes.{IsBytes}
use Rattle.udf_space.specs.Bits.{bit_of, bits_of, byte_of, bytes_for, packed}
use Rattle.udf_space.specs.Stored.{IsStored}

-- bit i of the byte of some bits
pub byte_bit : (bits : List Bool) (i : ℕ) → eqb (bit_at (byte_of bits) i) 1 ≡ get_or bits i false
byte_bit [] i = ap (λ n. eqb n 1) (bit_at-zero i)
byte_bit (true ∷ bits) zero = ap (λ n. eqb n 1) (bit_at_lowest (1 + 2 * byte_of bits) ∙ (let e : (1 + 2 * byte_of bits) % 2 ≡ 1 = omega arith in e))
byte_bit (false ∷ bits) zero = ap (λ n. eqb n 1) (bit_at_lowest (0 + 2 * byte_of bits) ∙ (let e : (0 + 2 * byte_of bits) % 2 ≡ 0 = omega arith in e))
byte_bit (true ∷ bits) (suc i) =
    ap (λ n. eqb n 1) (bit_at-suc (1 + 2 * byte_of bits) i ∙ ap (λ n. bit_at n i) (let e : (1 + 2 * byte_of bits) / 2 ≡ byte_of bits = omega arith in e))
    ∙ byte_bit bits i
byte_bit (false ∷ bits) (suc i) =
    ap (λ n. eqb n 1) (bit_at-suc (0 + 2 * byte_of bits) i ∙ ap (λ n. bit_at n i) (let e : (0 + 2 * byte_of bits) / 2 ≡ byte_of bits = omega arith in e))
    ∙ byte_bit bits i

byte_below : (bits : List Bool) (n : ℕ) → length bits ≤ n → byte_of bits < 2 ^ n
byte_below [] n short = pow_pos n
byte_below (bit ∷ bits) zero short = absurd (omega arith)
byte_below (true ∷ bits) (suc n) short = let h : byte_of bits < 2 ^ n = byte_below bits n (omega arith) in omega arith
byte_below (false ∷ bits) (suc n) short = let h : byte_of bits < 2 ^ n = byte_below bits n (omega arith) in omega arith

eight : (bits : List Bool) → length (take 8 bits) ≤ 8
eight bits = omega (arith, length-take 8 bits)

pub packed_length : (bits : List Bool) → length (packed bits) ≡ bytes_for (length bits)
unfolding packed
packed_length bits = length-map-range_with_len (λ k. byte_of (take 8 (drop (8 * k) bits))) 0 (bytes_for (length bits))

pub packed_byte : (bits : List Bool) (k : ℕ) → k < bytes_for (length bits) → get_or (packed bits) k 0 ≡ byte_of (take 8 (drop (8 * k) bits))
unfolding packed
packed_byte bits k small = get_or-map-range_with_len (λ k. byte_of (take 8 (drop (8 * k) bits))) 0 (bytes_for (length bits)) k k 0 small (omega arith)

pub packed_is_bytes : (bits : List Bool) → IsBytes (packed bits)
packed_is_bytes bits k = ⊎_elim (within k) (past k) (cases_lt k (bytes_for (length bits))) where
  within : (k : ℕ) → k < bytes_for (length bits) → get_or (packed bits) k 0 < 256
  within k small = omega (arith, packed_byte bits k small, byte_below (take 8 (drop (8 * k) bits)) 8 (eight (drop (8 * k) bits)))

  past : (k : ℕ) → bytes_for (length bits) ≤ k → get_or (packed bits) k 0 < 256
  past k large = omega (arith, get_or_past (packed bits) k 0 (omega (arith, packed_length bits)))

-- a bit by its byte and its place there
pub bit_at_place : (bytes : List ℕ) (k i n : ℕ) → n ≡ 8 * k + i → i < 8 → bit_of bytes n ≡ eqb (bit_at (get_or bytes k 0) i) 1
unfolding bit_of
bit_at_place bytes k i n is small =
    ap (λ q. eqb (bit_at (get_or bytes q 0) (n % 8)) 1) (let e : n / 8 ≡ k = omega arith in e)
    ∙ ap (λ r. eqb (bit_at (get_or bytes k 0) r) 1) (let e : n % 8 ≡ i = omega arith in e)

pub bit_past : (bytes : List ℕ) (n : ℕ) → length bytes ≤ n / 8 → bit_of bytes n ≡ false
unfolding bit_of
bit_past bytes n past =
    ap (λ byte. eqb (bit_at byte (n % 8)) 1) (get_or_past bytes (n / 8) 0 past) ∙ ap (λ b. eqb b 1) (bit_at-zero (n % 8))

-- bit i of byte k of the bytes of bits
place_bit : (bits : List Bool) (k i : ℕ) → i < 8 → eqb (bit_at (byte_of (take 8 (drop (8 * k) bits))) i) 1 ≡ get_or bits (8 * k + i) false
place_bit bits k i small =
    byte_bit (take 8 (drop (8 * k) bits)) i ∙ get_or-take 8 (drop (8 * k) bits) i false small ∙ get_or-drop (8 * k) bits i false

pub packed_bit : (bits : List Bool) (rest : List ℕ) (n : ℕ) → n / 8 < bytes_for (length bits) → bit_of (packed bits ++ rest) n ≡ get_or bits n false
packed_bit bits rest n small =
    bit_at_place (packed bits ++ rest) (n / 8) (n % 8) n (omega arith) (omega arith)
    ∙ ap (λ byte. eqb (bit_at byte (n % 8)) 1)
    (get_or_append_left (packed bits) rest 0 (n / 8) (omega (arith, packed_length bits)) ∙ packed_byte bits (n / 8) small)
    ∙ place_bit bits (n / 8) (n % 8) (omega arith) ∙ ap (λ m. get_or bits m false) (let e : 8 * (n / 8) + n % 8 ≡ n = omega arith in e)

pub bits_length : (blocks : ℕ) (bytes : List ℕ) → length (bits_of blocks bytes) ≡ blocks
unfolding bits_of
bits_length blocks bytes = length-map-range_with_len (bit_of bytes) 0 blocks

pub bits_get : (blocks : ℕ) (bytes : List ℕ) (n : ℕ) (d : Bool) → n < blocks → get_or (bits_of blocks bytes) n d ≡ bit_of bytes n
unfolding bits_of
bits_get blocks bytes n d small = get_or-map-range_with_len (bit_of bytes) 0 blocks n n d small (omega arith)

-- bits that agree one by one
pub same_bits : (blocks : ℕ) (bytes : List ℕ) (bits : List Bool) → length bits ≡ blocks → ((n : ℕ) → n < blocks → bit_of bytes n ≡ get_or bits n false)
    → bits_of blocks bytes ≡ bits
same_bits blocks bytes bits long h =
    ext_get_or false (bits_of blocks bytes) bits (bits_length blocks bytes ∙ sym long)
    (λ n small. let within : n < blocks = omega (arith, bits_length blocks bytes) in bits_get blocks bytes n false within ∙ h n within)

pub packed_back : (bits : List Bool) (rest : List ℕ) → bits_of (length bits) (packed bits ++ rest) ≡ bits
packed_back bits rest = same_bits (length bits) (packed bits ++ rest) bits refl (λ n small. packed_bit bits rest n (omega arith))

pub packed_clear : (bits : List Bool) (n : ℕ) → length bits ≤ n → bit_of (packed bits) n ≡ false
packed_clear bits n large = ⊎_elim (λ h. within h) (λ h. bit_past (packed bits) n (omega (arith, packed_length bits))) (cases_lt (n / 8) (bytes_for (length bits))) where
  byte_of_it : n / 8 < bytes_for (length bits) → bit_of (packed bits) n ≡ eqb (bit_at (byte_of (take 8 (drop (8 * (n / 8)) bits))) (n % 8)) 1
  byte_of_it h =
      bit_at_place (packed bits) (n / 8) (n % 8) n (omega arith) (omega arith) ∙ ap (λ byte. eqb (bit_at byte (n % 8)) 1) (packed_byte bits (n / 8) h)

  within : n / 8 < bytes_for (length bits) → bit_of (packed bits) n ≡ false
  within h =
      byte_of_it h ∙ place_bit bits (n / 8) (n % 8) (omega arith) ∙ get_or_past bits (8 * (n / 8) + n % 8) false (omega arith)

one_bit : (x y : ℕ) → x < 2 → y < 2 → eqb x 1 ≡ eqb y 1 → x ≡ y
one_bit zero zero l k e = refl
one_bit zero (suc zero) l k e = cc
one_bit (suc zero) zero l k e = cc
one_bit (suc zero) (suc zero) l k e = refl
one_bit (suc (suc x)) y l k e = absurd (omega arith)
one_bit zero (suc (suc y)) l k e = absurd (omega arith)
one_bit (suc zero) (suc (suc y)) l k e = absurd (omega arith)

-- any bit of stored bytes
pub stored_bit : (blocks : ℕ) (bytes : List ℕ) (n : ℕ) → IsStored blocks bytes → get_or (bits_of blocks bytes) n false ≡ bit_of bytes n
stored_bit blocks bytes n stored =
    ⊎_elim (λ small. bits_get blocks bytes n false small)
    (λ large. get_or_past (bits_of blocks bytes) n false (omega (arith, bits_length blocks bytes)) ∙ sym (stored.clear n large))
    (cases_lt n blocks)

-- stored bytes are those of their bits
pub stored_packed : (blocks : ℕ) (bytes : List ℕ) → IsStored blocks bytes → packed (bits_of blocks bytes) ≡ bytes
stored_packed blocks bytes stored =
    ext_get_or 0 (packed (bits_of blocks bytes)) bytes long (λ k within. same k (omega (arith, long, stored.long))) where
      many : length (bits_of blocks bytes) ≡ blocks
      many = bits_length blocks bytes

      long : length (packed (bits_of blocks bytes)) ≡ length bytes
      long = packed_length (bits_of blocks bytes) ∙ ap bytes_for many ∙ sym stored.long

      bit : (k i : ℕ) → i < 8 → bit_at (byte_of (take 8 (drop (8 * k) (bits_of blocks bytes)))) i ≡ bit_at (get_or bytes k 0) i
      bit k i low =
          one_bit _ _ (bit_at-lt (byte_of (take 8 (drop (8 * k) (bits_of blocks bytes)))) i) (bit_at-lt (get_or bytes k 0) i)
          (place_bit (bits_of blocks bytes) k i low ∙ stored_bit blocks bytes (8 * k + i) stored ∙ bit_at_place bytes k i (8 * k + i) refl low)

      same : (k : ℕ) → k < bytes_for blocks → get_or (packed (bits_of blocks bytes)) k 0 ≡ get_or bytes k 0
      same k within =
          packed_byte (bits_of blocks bytes) k (omega (arith, many))
          ∙ same_from_bits_below 8 (byte_of (take 8 (drop (8 * k) (bits_of blocks bytes)))) (get_or bytes k 0)
          (byte_below (take 8 (drop (8 * k) (bits_of blocks bytes))) 8 (eight (drop (8 * k) (bits_of blocks bytes)))) (stored.small k) (bit k)
