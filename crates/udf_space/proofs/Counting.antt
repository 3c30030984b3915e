-- The ones of stored bytes are the bits that are set.
use Rattle.std.proofs.Common.{◌≡◌, ℕ, zero, suc, ◌+◌, ◌*◌, ◌<◌, ◌≤◌, arith, refl, sym, ◌∙◌, ap, Bool, cond, List, [], ◌∷◌, ◌++◌, length, take, drop, get_or, count_ones}
use lib.Lanes.{mask_l}
use Rattle.std.specs.List.{sum_by, count_by}
use Rattle.std.proofs.lemmas.Simd.{ones-mask_l}
use Rattle.std.proofs.lemmas.List.{map-id, take_more, take_all, length-take}
use Rattle.std.proofs.lemmas.List.Sums.{sum_by-append, count_by-le-length}
use Rattle.std.proofs.Math.Seq.{take-add}
use Rattle.udf_space.specs.Bits.{bits_of, byte_of}
use Rattle.udf_space.specs.Stored.{IsStored}
use Rattle.udf_space.proofs.Packing.{bits_length, packed_byte, stored_packed}

is_mask : (bits : List Bool) → byte_of bits ≡ mask_l bits
is_mask [] = refl
is_mask (bit ∷ bits) = ap (λ n. cond bit 1 0 + 2 * n) (is_mask bits)

ones_of : (bits : List Bool) → count_ones (byte_of bits) ≡ count_by (λ free. free) bits
ones_of bits = ap count_ones (is_mask bits ∙ ap mask_l (sym (map-id bits))) ∙ ones-mask_l (λ free. free) bits

-- the ones of the first bytes
pub ones_so_far : (blocks : ℕ) (bytes : List ℕ) (k : ℕ) → IsStored blocks bytes → k ≤ length bytes
    → sum_by count_ones (take k bytes) ≡ count_by (λ free. free) (take (8 * k) (bits_of blocks bytes))
ones_so_far blocks bytes zero stored within = refl
ones_so_far blocks bytes (suc k) stored within =
    let bits = bits_of blocks bytes in
    let many : length bits ≡ blocks = bits_length blocks bytes in
    let byte : get_or bytes k 0 ≡ byte_of (take 8 (drop (8 * k) bits)) =
    ap (λ xs. get_or xs k 0) (sym (stored_packed blocks bytes stored)) ∙ packed_byte bits k (omega (arith, stored.long, many)) in
    let more : take (k + 1) bytes ≡ take k bytes ++ get_or bytes k 0 ∷ [] = take_more bytes k 0 (omega arith) in
    ap (λ n. sum_by count_ones (take n bytes)) (let e : suc k ≡ k + 1 = omega arith in e) ∙ ap (sum_by count_ones) more
    ∙ sum_by-append count_ones (take k bytes) (get_or bytes k 0 ∷ [])
    ∙ ap (λ n. sum_by count_ones (take k bytes) + n) (last (get_or bytes k 0) ∙ ap count_ones byte ∙ ones_of (take 8 (drop (8 * k) bits)))
    ∙ ap (λ n. n + count_by (λ free. free) (take 8 (drop (8 * k) bits))) (ones_so_far blocks bytes k stored (omega arith))
    ∙ sym (ap (λ n. count_by (λ free. free) (take n bits)) (let e : 8 * suc k ≡ 8 * k + 8 = omega arith in e)
    ∙ ap (count_by (λ free. free)) (take-add (8 * k) 8 bits)
    ∙ sum_by-append (λ x. cond x 1 0) (take (8 * k) bits) (take 8 (drop (8 * k) bits))) where
      last : (byte : ℕ) → sum_by count_ones (byte ∷ []) ≡ count_ones byte
      last byte = omega arith

-- the ones of all bytes
pub ones_in_all : (blocks : ℕ) (bytes : List ℕ) → IsStored blocks bytes → sum_by count_ones bytes ≡ count_by (λ free. free) (bits_of blocks bytes)
ones_in_all blocks bytes stored =
    ap (sum_by count_ones) (sym (take_all (length bytes) bytes (omega arith))) ∙ ones_so_far blocks bytes (length bytes) stored (omega arith)
    ∙ ap (count_by (λ free. free)) (take_all (8 * length bytes) (bits_of blocks bytes) (omega (arith, bits_length blocks bytes, stored.long)))

-- no more ones than blocks
pub ones_below_blocks : (blocks : ℕ) (bytes : List ℕ) (k : ℕ) → IsStored blocks bytes → k < length bytes
    → sum_by count_ones (take k bytes) + count_ones (get_or bytes k 0) ≤ blocks
ones_below_blocks blocks bytes k stored within =
    let bits = bits_of blocks bytes in
    let more : take (k + 1) bytes ≡ take k bytes ++ get_or bytes k 0 ∷ [] = take_more bytes k 0 within in
    let sum : sum_by count_ones (take (k + 1) bytes) ≡ sum_by count_ones (take k bytes) + sum_by count_ones (get_or bytes k 0 ∷ []) =
    ap (sum_by count_ones) more ∙ sum_by-append count_ones (take k bytes) (get_or bytes k 0 ∷ []) in
    omega (
      arith,
      sum,
      ones_so_far blocks bytes (k + 1) stored (omega arith),
      count_by-le-length (λ (free : Bool). free) (take (8 * (k + 1)) bits),
      length-take (8 * (k + 1)) bits,
      bits_length blocks bytes,
    )
