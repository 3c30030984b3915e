-- Bits that are changed, each at its place.
use Rattle.std.proofs.Common.{◌≡◌, ◌≢◌, ℕ, ◌+◌, ◌-◌, ◌*◌, ◌/◌, ◌%◌, ◌^◌, ◌<◌, ◌≤◌, arith, sym, ◌∙◌, ap, true, false, eqb, List, length, take, set, replicate, get_or, ⊎_elim, min, bit_and, w8}
use Rattle.std.specs.Int.{bit_at, bit_not}
use Rattle.std.proofs.lemmas.Nat.{and_le_l}
use Rattle.std.proofs.lemmas.Nat.Bits.{bit_at-lt, bit_at_and, bit_at_ones, bit_at_ones_above, bit_at_clear_same, bit_at_clear_other}
use Rattle.std.proofs.lemmas.Bool.{cases_eq}
use Rattle.std.proofs.lemmas.List.{get_or-set_same, get_or-set_other, get_or-take, get_or-replicate, length-set, length-replicate}
use Rattle.udf_model.specs.Bytes.{IsBytes}
use Rattle.udf_space.specs.Bits.{bit_of, bits_of, bytes_for}
use Rattle.udf_space.specs.Stored.{IsStored}
use Rattle.udf_space.proofs.Packing.{bit_at_place, bit_past, bits_length, bits_get, same_bits}

-- the bits depend on their own bytes alone
pub own_bits : (blocks : ℕ) (a b : List ℕ) → take (bytes_for blocks) a ≡ take (bytes_for blocks) b → bits_of blocks a ≡ bits_of blocks b
unfolding bit_of
own_bits blocks a b same =
    same_bits blocks a (bits_of blocks b) (bits_length blocks b)
    (λ n small. ap (λ byte. eqb (bit_at byte (n % 8)) 1)
    (sym (get_or-take (bytes_for blocks) a (n / 8) 0 (omega arith)) ∙ ap (λ xs. get_or xs (n / 8) 0) same ∙ get_or-take (bytes_for blocks) b (n / 8) 0 (omega arith))
    ∙ sym (bits_get blocks b n false small))

-- every bit of bytes that are all ones
pub blank_bits : (blocks : ℕ) → bits_of blocks (replicate (bytes_for blocks) 255) ≡ replicate blocks true
blank_bits blocks =
    same_bits blocks (replicate (bytes_for blocks) 255) (replicate blocks true) (length-replicate blocks true)
    (λ n small. bit_at_place (replicate (bytes_for blocks) 255) (n / 8) (n % 8) n (omega arith) (omega arith)
    ∙ ap (λ byte. eqb (bit_at byte (n % 8)) 1) (get_or-replicate (bytes_for blocks) (n / 8) 255 0 (omega arith))
    ∙ ap (λ b. eqb b 1) (bit_at_ones 8 (n % 8) (omega arith)) ∙ sym (get_or-replicate blocks n true false small))

-- a byte that is written changes no bit of another byte
pub other_byte : (bytes : List ℕ) (k x n : ℕ) → n / 8 ≢ k → bit_of (set bytes k x) n ≡ bit_of bytes n
unfolding bit_of
other_byte bytes k x n apart = ap (λ byte. eqb (bit_at byte (n % 8)) 1) (get_or-set_other bytes k (n / 8) x 0 apart)

pub same_byte : (bytes : List ℕ) (k i x n : ℕ) → n ≡ 8 * k + i → i < 8 → k < length bytes → bit_of (set bytes k x) n ≡ eqb (bit_at x i) 1
same_byte bytes k i x n is small within =
    bit_at_place (set bytes k x) k i n is small ∙ ap (λ byte. eqb (bit_at byte i) 1) (get_or-set_same bytes k x 0 within)

masked : (bytes : List ℕ) (k mask : ℕ) → IsBytes bytes → k < length bytes → IsBytes (set bytes k (bit_and (get_or bytes k 0) mask))
masked bytes k mask small within i = ⊎_elim here (λ h. let e = get_or-set_other bytes k i (bit_and (get_or bytes k 0) mask) 0 h in omega (arith, e, small i)) (cases_eq i k) where
  here : i ≡ k → get_or (set bytes k (bit_and (get_or bytes k 0) mask)) i 0 < 256
  here e =
      let is : get_or (set bytes k (bit_and (get_or bytes k 0) mask)) i 0 ≡ bit_and (get_or bytes k 0) mask =
      ap (λ j. get_or (set bytes k (bit_and (get_or bytes k 0) mask)) j 0) e ∙ get_or-set_same bytes k (bit_and (get_or bytes k 0) mask) 0 within in
      omega (arith, is, small k, and_le_l (get_or bytes k 0) mask)

-- the byte with one bit cleared
abbrev pub cleared : ℕ → ℕ → ℕ
cleared byte place = bit_and byte (bit_not w8 (1 * 2 ^ place % 2 ^ 8))

pub claimed_here : (bytes : List ℕ) (b : ℕ) → b / 8 < length bytes → bit_of (set bytes (b / 8) (cleared (get_or bytes (b / 8) 0) (b % 8))) b ≡ false
claimed_here bytes b within =
    same_byte bytes (b / 8) (b % 8) (cleared (get_or bytes (b / 8) 0) (b % 8)) b (omega arith) (omega arith) within
    ∙ ap (λ x. eqb x 1) (bit_at_clear_same w8 (get_or bytes (b / 8) 0) (b % 8) (omega arith))

pub claimed_other : (bytes : List ℕ) (b n : ℕ) → b / 8 < length bytes → n ≢ b
    → bit_of (set bytes (b / 8) (cleared (get_or bytes (b / 8) 0) (b % 8))) n ≡ bit_of bytes n
claimed_other bytes b n within apart = ⊎_elim here (λ h. other_byte bytes (b / 8) (cleared (get_or bytes (b / 8) 0) (b % 8)) n h) (cases_eq (n / 8) (b / 8)) where
  here : n / 8 ≡ b / 8 → bit_of (set bytes (b / 8) (cleared (get_or bytes (b / 8) 0) (b % 8))) n ≡ bit_of bytes n
  here e =
      same_byte bytes (b / 8) (n % 8) (cleared (get_or bytes (b / 8) 0) (b % 8)) n (omega arith) (omega arith) within
      ∙ ap (λ x. eqb x 1) (bit_at_clear_other w8 (get_or bytes (b / 8) 0) (b % 8) (omega arith) (n % 8) (omega arith) (λ same. apart (omega arith)))
      ∙ sym (bit_at_place bytes (b / 8) (n % 8) n (omega arith) (omega arith))

pub claimed_bits : (blocks : ℕ) (bytes : List ℕ) (b : ℕ) → b < blocks → length bytes ≡ bytes_for blocks
    → bits_of blocks (set bytes (b / 8) (cleared (get_or bytes (b / 8) 0) (b % 8))) ≡ set (bits_of blocks bytes) b false
claimed_bits blocks bytes b small long =
    same_bits blocks (set bytes (b / 8) (cleared (get_or bytes (b / 8) 0) (b % 8))) (set (bits_of blocks bytes) b false)
    (length-set (bits_of blocks bytes) b false ∙ bits_length blocks bytes) (λ n within. ⊎_elim (here n within) (there n within) (cases_eq n b)) where
      here : (n : ℕ) → n < blocks → n ≡ b → bit_of (set bytes (b / 8) (cleared (get_or bytes (b / 8) 0) (b % 8))) n ≡ get_or (set (bits_of blocks bytes) b false) n false
      here n within e =
          ap (bit_of (set bytes (b / 8) (cleared (get_or bytes (b / 8) 0) (b % 8)))) e ∙ claimed_here bytes b (omega arith)
          ∙ sym (ap (λ m. get_or (set (bits_of blocks bytes) b false) m false) e
          ∙ get_or-set_same (bits_of blocks bytes) b false false (omega (arith, bits_length blocks bytes)))

      there : (n : ℕ) → n < blocks → n ≢ b → bit_of (set bytes (b / 8) (cleared (get_or bytes (b / 8) 0) (b % 8))) n ≡ get_or (set (bits_of blocks bytes) b false) n false
      there n within apart =
          claimed_other bytes b n (omega arith) apart
          ∙ sym (get_or-set_other (bits_of blocks bytes) b n false false apart ∙ bits_get blocks bytes n false within)

pub claimed_stored : (blocks : ℕ) (bytes : List ℕ) (b : ℕ) → b < blocks → IsStored blocks bytes
    → IsStored blocks (set bytes (b / 8) (cleared (get_or bytes (b / 8) 0) (b % 8)))
claimed_stored blocks bytes b small stored = record {
  long = length-set bytes (b / 8) (cleared (get_or bytes (b / 8) 0) (b % 8)) ∙ stored.long;
  small = masked bytes (b / 8) (bit_not w8 (1 * 2 ^ (b % 8) % 2 ^ 8)) stored.small (omega (arith, stored.long));
  clear = λ n large. claimed_other bytes b n (omega (arith, stored.long)) (λ same. omega arith) ∙ stored.clear n large;
}

-- the byte with the bits from a place on cleared
abbrev pub kept_below : ℕ → ℕ → ℕ
kept_below byte place = bit_and byte (2 ^ place - 1)

pub rest_low : (bytes : List ℕ) (blocks n : ℕ) → length bytes ≡ bytes_for blocks → blocks % 8 ≢ 0 → n < blocks
    → bit_of (set bytes (blocks / 8) (kept_below (get_or bytes (blocks / 8) 0) (blocks % 8))) n ≡ bit_of bytes n
rest_low bytes blocks n long part small = ⊎_elim here (λ h. other_byte bytes (blocks / 8) (kept_below (get_or bytes (blocks / 8) 0) (blocks % 8)) n h) (cases_eq (n / 8) (blocks / 8)) where
  kept : n / 8 ≡ blocks / 8 → bit_at (kept_below (get_or bytes (blocks / 8) 0) (blocks % 8)) (n % 8) ≡ bit_at (get_or bytes (blocks / 8) 0) (n % 8)
  kept e =
      bit_at_and (get_or bytes (blocks / 8) 0) (2 ^ (blocks % 8) - 1) (n % 8)
      ∙ ap (λ x. min (bit_at (get_or bytes (blocks / 8) 0) (n % 8)) x) (bit_at_ones (blocks % 8) (n % 8) (omega arith))
      ∙ (let low : bit_at (get_or bytes (blocks / 8) 0) (n % 8) < 2 = bit_at-lt (get_or bytes (blocks / 8) 0) (n % 8) in
      lesser (bit_at (get_or bytes (blocks / 8) 0) (n % 8)) low) where
        lesser : (x : ℕ) → x < 2 → min x 1 ≡ x
        lesser x low = omega arith

  here : n / 8 ≡ blocks / 8 → bit_of (set bytes (blocks / 8) (kept_below (get_or bytes (blocks / 8) 0) (blocks % 8))) n ≡ bit_of bytes n
  here e =
      same_byte bytes (blocks / 8) (n % 8) (kept_below (get_or bytes (blocks / 8) 0) (blocks % 8)) n (omega arith) (omega arith) (omega arith)
      ∙ ap (λ x. eqb x 1) (kept e) ∙ sym (bit_at_place bytes (blocks / 8) (n % 8) n (omega arith) (omega arith))

pub rest_high : (bytes : List ℕ) (blocks n : ℕ) → length bytes ≡ bytes_for blocks → blocks % 8 ≢ 0 → blocks ≤ n
    → bit_of (set bytes (blocks / 8) (kept_below (get_or bytes (blocks / 8) 0) (blocks % 8))) n ≡ false
rest_high bytes blocks n long part large = ⊎_elim here past (cases_eq (n / 8) (blocks / 8)) where
  none : (x : ℕ) → min x 0 ≡ 0
  none x = omega arith

  lost : n / 8 ≡ blocks / 8 → bit_at (kept_below (get_or bytes (blocks / 8) 0) (blocks % 8)) (n % 8) ≡ 0
  lost e =
      bit_at_and (get_or bytes (blocks / 8) 0) (2 ^ (blocks % 8) - 1) (n % 8)
      ∙ ap (λ x. min (bit_at (get_or bytes (blocks / 8) 0) (n % 8)) x) (bit_at_ones_above (blocks % 8) (n % 8) (omega arith))
      ∙ none (bit_at (get_or bytes (blocks / 8) 0) (n % 8))

  here : n / 8 ≡ blocks / 8 → bit_of (set bytes (blocks / 8) (kept_below (get_or bytes (blocks / 8) 0) (blocks % 8))) n ≡ false
  here e =
      same_byte bytes (blocks / 8) (n % 8) (kept_below (get_or bytes (blocks / 8) 0) (blocks % 8)) n (omega arith) (omega arith) (omega arith)
      ∙ ap (λ x. eqb x 1) (lost e)

  past : n / 8 ≢ blocks / 8 → bit_of (set bytes (blocks / 8) (kept_below (get_or bytes (blocks / 8) 0) (blocks % 8))) n ≡ false
  past apart =
      bit_past (set bytes (blocks / 8) (kept_below (get_or bytes (blocks / 8) 0) (blocks % 8))) n
      (omega (arith, length-set bytes (blocks / 8) (kept_below (get_or bytes (blocks / 8) 0) (blocks % 8))))

pub rest_bits : (blocks : ℕ) (bytes : List ℕ) → length bytes ≡ bytes_for blocks → blocks % 8 ≢ 0
    → bits_of blocks (set bytes (blocks / 8) (kept_below (get_or bytes (blocks / 8) 0) (blocks % 8))) ≡ bits_of blocks bytes
rest_bits blocks bytes long part =
    same_bits blocks (set bytes (blocks / 8) (kept_below (get_or bytes (blocks / 8) 0) (blocks % 8))) (bits_of blocks bytes) (bits_length blocks bytes)
    (λ n small. rest_low bytes blocks n long part small ∙ sym (bits_get blocks bytes n false small))

pub rest_stored : (blocks : ℕ) (bytes : List ℕ) → length bytes ≡ bytes_for blocks → blocks % 8 ≢ 0
    → IsBytes (set bytes (blocks / 8) (kept_below (get_or bytes (blocks / 8) 0) (blocks % 8)))
    → IsStored blocks (set bytes (blocks / 8) (kept_below (get_or bytes (blocks / 8) 0) (blocks % 8)))
rest_stored blocks bytes long part small = record {
  long = length-set bytes (blocks / 8) (kept_below (get_or bytes (blocks / 8) 0) (blocks % 8)) ∙ long;
  small = small;
  clear = λ n large. rest_high bytes blocks n long part large;
}

-- where the last byte is full, no bit stands past the last block
pub full_stored : (blocks : ℕ) (bytes : List ℕ) → length bytes ≡ bytes_for blocks → IsBytes bytes → blocks % 8 ≡ 0 → IsStored blocks bytes
full_stored blocks bytes long small full = record { long = long; small = small; clear = λ n large. bit_past bytes n (omega arith) }
