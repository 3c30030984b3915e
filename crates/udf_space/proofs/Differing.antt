-- The ones of the exclusive ors of bytes are the bits that differ.
use Rattle.std.proofs.Common.{◌≡◌, ℕ, zero, suc, ◌+◌, ◌/◌, ◌%◌, ◌<◌, ◌≤◌, arith, refl, sym, ◌∙◌, ap, false, eqb, List, [], ◌∷◌, length, take, map, get_or, count_ones, ⊎_elim}
use Rattle.std.specs.Int.{bit_at}
use Rattle.std.specs.Int.Bits.{bit_xor}
use Rattle.std.specs.List.{sum_by, count_by, range_with_len}
use Rattle.std.specs.Simd.Lanes.{zip2}
use Rattle.std.proofs.lemmas.Bool.{cases_lt}
use Rattle.std.proofs.lemmas.Nat.{xor_of_8}
use Rattle.std.proofs.lemmas.Nat.Bits.{bit_at-lt, bit_at_xor}
use Rattle.std.proofs.lemmas.Simd.{get_or-zip2, length-zip2, zip2-map}
use Rattle.std.proofs.lemmas.List.{get_or_past, take_more, take_all}
use Rattle.std.proofs.lemmas.List.FromFn.{get_or-map-range_with_len, length-map-range_with_len}
use Rattle.std.proofs.lemmas.List.Sums.{sum_by-append}
use Rattle.udf_space.specs.Bits.{bit_of, bits_of, differ}
use Rattle.udf_space.specs.Stored.{IsStored}
use Rattle.udf_space.proofs.Counting.{ones_below_blocks, ones_in_all}
use Rattle.udf_space.proofs.Packing.{bit_at_place, bit_past, same_bits}

odd_one : (x y : ℕ) → x < 2 → y < 2 → eqb ((x + y) % 2) 1 ≡ differ (eqb x 1) (eqb y 1)
odd_one zero zero l k = refl
odd_one zero (suc zero) l k = refl
odd_one (suc zero) zero l k = refl
odd_one (suc zero) (suc zero) l k = refl
odd_one (suc (suc x)) y l k = absurd (omega arith)
odd_one zero (suc (suc y)) l k = absurd (omega arith)
odd_one (suc zero) (suc (suc y)) l k = absurd (omega arith)

-- a bit of the exclusive ors
xor_bit : (a b : List ℕ) (n : ℕ) → length a ≡ length b → bit_of (zip2 bit_xor a b) n ≡ differ (bit_of a n) (bit_of b n)
xor_bit a b n long = ⊎_elim within past (cases_lt (n / 8) (length a)) where
  split : (bytes : List ℕ) → bit_of bytes n ≡ eqb (bit_at (get_or bytes (n / 8) 0) (n % 8)) 1
  split bytes = bit_at_place bytes (n / 8) (n % 8) n (omega arith) (omega arith)

  within : n / 8 < length a → bit_of (zip2 bit_xor a b) n ≡ differ (bit_of a n) (bit_of b n)
  within small =
      split (zip2 bit_xor a b)
      ∙ ap (λ x. eqb (bit_at x (n % 8)) 1) (get_or-zip2 bit_xor a b (n / 8) 0 0 0 small (omega arith))
      ∙ ap (λ x. eqb x 1) (bit_at_xor (get_or a (n / 8) 0) (get_or b (n / 8) 0) (n % 8))
      ∙ odd_one (bit_at (get_or a (n / 8) 0) (n % 8)) (bit_at (get_or b (n / 8) 0) (n % 8)) (bit_at-lt (get_or a (n / 8) 0) (n % 8)) (bit_at-lt (get_or b (n / 8) 0) (n % 8))
      ∙ sym (ap (λ x. differ x (bit_of b n)) (split a) ∙ ap (differ (eqb (bit_at (get_or a (n / 8) 0) (n % 8)) 1)) (split b))

  past : length a ≤ n / 8 → bit_of (zip2 bit_xor a b) n ≡ differ (bit_of a n) (bit_of b n)
  past large =
      bit_past (zip2 bit_xor a b) n (omega (arith, length-zip2 bit_xor a b long))
      ∙ sym (ap (λ x. differ x (bit_of b n)) (bit_past a n large) ∙ ap (differ false) (bit_past b n (omega arith)))

xors_stored : (blocks : ℕ) (a b : List ℕ) → IsStored blocks a → IsStored blocks b → IsStored blocks (zip2 bit_xor a b)
xors_stored blocks a b one two = record { long = many ∙ one.long; small = λ i. ⊎_elim (within i) (past i) (cases_lt i (length a)); clear = clear } where
  same : length a ≡ length b
  same = one.long ∙ sym two.long

  many : length (zip2 bit_xor a b) ≡ length a
  many = length-zip2 bit_xor a b same

  within : (i : ℕ) → i < length a → get_or (zip2 bit_xor a b) i 0 < 256
  within i small =
      omega (arith, get_or-zip2 bit_xor a b i 0 0 0 small (omega arith), xor_of_8 (get_or a i 0) (get_or b i 0) (omega (arith, one.small i)) (omega (arith, two.small i)))

  past : (i : ℕ) → length a ≤ i → get_or (zip2 bit_xor a b) i 0 < 256
  past i large = omega (arith, get_or_past (zip2 bit_xor a b) i 0 (omega (arith, many)))

  clear : (n : ℕ) → blocks ≤ n → bit_of (zip2 bit_xor a b) n ≡ false
  clear n large = xor_bit a b n same ∙ ap (λ x. differ x (bit_of b n)) (one.clear n large) ∙ ap (differ false) (two.clear n large)

xors_bits : (blocks : ℕ) (a b : List ℕ) → length a ≡ length b → bits_of blocks (zip2 bit_xor a b) ≡ zip2 differ (bits_of blocks a) (bits_of blocks b)
unfolding bits_of
xors_bits blocks a b long =
    same_bits blocks (zip2 bit_xor a b) (map (λ n. differ (bit_of a n) (bit_of b n)) (range_with_len 0 blocks))
    (length-map-range_with_len (λ n. differ (bit_of a n) (bit_of b n)) 0 blocks)
    (λ n small. xor_bit a b n long ∙ sym (get_or-map-range_with_len (λ n. differ (bit_of a n) (bit_of b n)) 0 blocks n n false small (omega arith)))
    ∙ sym (zip2-map differ (bit_of a) (bit_of b) (range_with_len 0 blocks))

-- all ones of the exclusive ors
pub all_differing : (blocks : ℕ) (a b : List ℕ) → IsStored blocks a → IsStored blocks b
    → sum_by count_ones (take (length a) (zip2 bit_xor a b)) ≡ count_by (λ differs. differs) (zip2 differ (bits_of blocks a) (bits_of blocks b))
all_differing blocks a b one two =
    ap (sum_by count_ones) (take_all (length a) (zip2 bit_xor a b) (omega (arith, length-zip2 bit_xor a b (one.long ∙ sym two.long))))
    ∙ ones_in_all blocks (zip2 bit_xor a b) (xors_stored blocks a b one two)
    ∙ ap (count_by (λ differs. differs)) (xors_bits blocks a b (one.long ∙ sym two.long))

-- no more than the blocks
pub few_differing : (blocks : ℕ) (a b : List ℕ) (k x y : ℕ) → IsStored blocks a → IsStored blocks b → k < length a → x ≡ get_or a k 0 → y ≡ get_or b k 0
    → sum_by count_ones (take k (zip2 bit_xor a b)) + count_ones (bit_xor x y) ≤ blocks
few_differing blocks a b k x y one two small e f =
    let same : length a ≡ length b = one.long ∙ sym two.long in
    let byte : bit_xor x y ≡ get_or (zip2 bit_xor a b) k 0 =
    ap (λ z. bit_xor z y) e ∙ ap (bit_xor (get_or a k 0)) f ∙ sym (get_or-zip2 bit_xor a b k 0 0 0 small (omega arith)) in
    omega (
      arith,
      ap count_ones byte,
      ones_below_blocks blocks (zip2 bit_xor a b) k (xors_stored blocks a b one two) (omega (arith, length-zip2 bit_xor a b same)),
    )

-- the ones of one byte more
pub more_differing : (a b : List ℕ) (k x y : ℕ) → length a ≡ length b → k < length a → x ≡ get_or a k 0 → y ≡ get_or b k 0
    → sum_by count_ones (take k (zip2 bit_xor a b)) + count_ones (bit_xor x y) ≡ sum_by count_ones (take (k + 1) (zip2 bit_xor a b))
more_differing a b k x y same small e f =
    sym (ap (sum_by count_ones) (take_more z k 0 (omega (arith, length-zip2 bit_xor a b same)))
    ∙ sum_by-append count_ones (take k z) (get_or z k 0 ∷ []) ∙ ap (λ n. sum_by count_ones (take k z) + n) (last (get_or z k 0) ∙ ap count_ones byte)) where
      z : List ℕ
      z = zip2 bit_xor a b

      last : (n : ℕ) → sum_by count_ones (n ∷ []) ≡ count_ones n
      last n = omega arith

      byte : get_or z k 0 ≡ bit_xor x y
      byte = get_or-zip2 bit_xor a b k 0 0 0 small (omega arith) ∙ sym (ap (λ n. bit_xor n y) e ∙ ap (bit_xor (get_or a k 0)) f)
