-- Runs of bits that are cleared.
use Rattle.std.proofs.Common.{◌≡◌, ℕ, ◌+◌, ◌-◌, ◌*◌, ◌/◌, ◌%◌, ◌^◌, ◌<◌, ◌≤◌, arith, refl, sym, ◌∙◌, ap, Bool, false, eqb, List, ◌++◌, length, take, drop, set, replicate, get_or, ⊎_elim, append_assoc, min, max, bit_or, w8}
use Rattle.std.specs.Int.{bit_at, bit_not}
use Rattle.std.proofs.Math.Pow.{pow_mono}
use Rattle.std.proofs.lemmas.Nat.{pow_pos}
use Rattle.std.proofs.lemmas.Nat.Bits.{bit_at-lt, bit_at_and, bit_at_or, bit_at_not, bit_at_ones, bit_at_ones_above}
use Rattle.std.proofs.lemmas.Bool.{cases_eq, cases_lt}
use Rattle.std.proofs.lemmas.List.{get_or_append_left, get_or-append_right, get_or-take, get_or-drop, get_or-replicate, length-append, length-take, length-drop, length-set, length-replicate}
use Rattle.udf_model.specs.Bytes.{IsBytes}
use Rattle.udf_space.specs.Bits.{bit_of, bits_of}
use Rattle.udf_space.specs.Stored.{Clears, IsStored, kept_around}
use Rattle.udf_space.proofs.Packing.{bit_at_place, bits_length, bits_get, same_bits}
use Rattle.udf_space.proofs.Places.{other_byte, same_byte}

kept_bit : (byte low high i : ℕ) → i < 8 → high ≤ 8
    → bit_at (kept_around byte low high) i ≡ min (bit_at byte i) (max (bit_at (2 ^ low - 1) i) (1 - bit_at (2 ^ high - 1) i))
kept_bit byte low high i small within =
    bit_at_and byte (bit_or (2 ^ low - 1) (bit_not w8 (2 ^ high - 1))) i
    ∙ ap (min (bit_at byte i)) (bit_at_or (2 ^ low - 1) (bit_not w8 (2 ^ high - 1)) i
    ∙ ap (max (bit_at (2 ^ low - 1) i)) (bit_at_not w8 (2 ^ high - 1) i (omega (arith, pow_mono within, pow_pos high)) small))

stays_below : (byte low high i : ℕ) → i < low → low ≤ 8 → high ≤ 8 → bit_at (kept_around byte low high) i ≡ bit_at byte i
stays_below byte low high i below short within =
    omega (arith, kept_bit byte low high i (omega arith) within, bit_at_ones low i below, bit_at-lt byte i, bit_at-lt (2 ^ high - 1) i)

is_lost : (byte low high i : ℕ) → low ≤ i → i < high → high ≤ 8 → bit_at (kept_around byte low high) i ≡ 0
is_lost byte low high i from below within =
    omega (arith, kept_bit byte low high i (omega arith) within, bit_at_ones_above low i from, bit_at_ones high i below)

stays_behind : (byte low high i : ℕ) → high ≤ i → i < 8 → bit_at (kept_around byte low high) i ≡ bit_at byte i
stays_behind byte low high i from small =
    omega (arith, kept_bit byte low high i small (omega arith), bit_at_ones_above high i from, bit_at-lt byte i, bit_at-lt (2 ^ low - 1) i)

-- the part of a run that lies in one byte is cleared
pub clears_byte : (start end k : ℕ) (old mid : List ℕ) → 8 * k < end → k < length mid → Clears start (min (8 * k) end) old mid
    → Clears start (min (8 * (k + 1)) end) old (set mid k (kept_around (get_or mid k 0) (min (start - 8 * k) 8) (min (end - 8 * k) 8)))
clears_byte start end k old mid some within h = record {
  long = length-set mid k byte ∙ h.long;
  before = λ n below. ⊎_elim
      (λ e. here n e ∙ ap (λ x. eqb x 1) (stays_below was low high (n % 8) (omega arith) (omega arith) (omega arith)) ∙ was_here n e)
      (λ apart. other_byte mid k byte n apart) (cases_eq (n / 8) k) ∙ h.before n below;
  inside = λ n from below. ⊎_elim
      (λ e. here n e ∙ ap (λ x. eqb x 1) (is_lost was low high (n % 8) (omega arith) (omega arith) (omega arith)))
      (λ apart. other_byte mid k byte n apart ∙ h.inside n from (omega arith)) (cases_eq (n / 8) k);
  behind = λ n from. ⊎_elim
      (λ e. here n e ∙ ap (λ x. eqb x 1) (stays_behind was low high (n % 8) (omega arith) (omega arith)) ∙ was_here n e)
      (λ apart. other_byte mid k byte n apart) (cases_eq (n / 8) k) ∙ h.behind n (omega arith);
} where
  low : ℕ
  low = min (start - 8 * k) 8

  high : ℕ
  high = min (end - 8 * k) 8

  was : ℕ
  was = get_or mid k 0

  byte : ℕ
  byte = kept_around was low high

  here : (n : ℕ) → n / 8 ≡ k → bit_of (set mid k byte) n ≡ eqb (bit_at byte (n % 8)) 1
  here n e = same_byte mid k (n % 8) byte n (omega arith) (omega arith) within

  was_here : (n : ℕ) → n / 8 ≡ k → eqb (bit_at was (n % 8)) 1 ≡ bit_of mid n
  was_here n e = sym (bit_at_place mid k (n % 8) n (omega arith) (omega arith))

-- nothing is cleared yet
pub clears_nothing : (start end : ℕ) (bytes : List ℕ) → end ≤ start → Clears start end bytes bytes
clears_nothing start end bytes none = record {
  long = refl;
  before = λ n below. refl;
  inside = λ n from below. absurd (omega arith);
  behind = λ n from. refl;
}

-- the bits of a run that is cleared
pub run_bits : (blocks start many : ℕ) (old new : List ℕ) → start + many ≤ blocks → Clears start (start + many) old new
    → bits_of blocks new ≡ take start (bits_of blocks old) ++ replicate many false ++ drop (start + many) (bits_of blocks old)
run_bits blocks start many old new within h =
    same_bits blocks new (take start bits ++ behind_it) long
    (λ n small. ⊎_elim (first n small) (λ from. ⊎_elim (second n small from) (third n small) (cases_lt n (start + many))) (cases_lt n start))
    ∙ sym (append_assoc (take start bits) (replicate many false) (drop (start + many) bits)) where
      bits : List Bool
      bits = bits_of blocks old

      behind_it : List Bool
      behind_it = replicate many false ++ drop (start + many) bits

      front : length (take start bits) ≡ start
      front = omega (arith, length-take start bits, bits_length blocks old)

      long : length (take start bits ++ behind_it) ≡ blocks
      long = omega (
        arith,
        length-append (take start bits) behind_it,
        front,
        length-append (replicate many false) (drop (start + many) bits),
        length-replicate many false,
        length-drop (start + many) bits,
        bits_length blocks old,
      )

      first : (n : ℕ) → n < blocks → n < start → bit_of new n ≡ get_or (take start bits ++ behind_it) n false
      first n small below =
          h.before n below ∙ sym (get_or_append_left (take start bits) behind_it false n (omega (arith, front))
          ∙ get_or-take start bits n false below ∙ bits_get blocks old n false small)

      second : (n : ℕ) → n < blocks → start ≤ n → n < start + many → bit_of new n ≡ get_or (take start bits ++ behind_it) n false
      second n small from below =
          h.inside n from below ∙ sym (get_or-append_right (take start bits) behind_it start n false front from
          ∙ get_or_append_left (replicate many false) (drop (start + many) bits) false (n - start) (omega (arith, length-replicate many false))
          ∙ get_or-replicate many (n - start) false false (omega arith))

      third : (n : ℕ) → n < blocks → start + many ≤ n → bit_of new n ≡ get_or (take start bits ++ behind_it) n false
      third n small from =
          h.behind n from ∙ sym (get_or-append_right (take start bits) behind_it start n false front (omega arith)
          ∙ get_or-append_right (replicate many false) (drop (start + many) bits) many (n - start) false (length-replicate many false) (omega arith)
          ∙ get_or-drop (start + many) bits (n - start - many) false
          ∙ ap (λ m. get_or bits m false) (let e : start + many + (n - start - many) ≡ n = omega arith in e) ∙ bits_get blocks old n false small)

pub run_stored : (blocks start end : ℕ) (old new : List ℕ) → end ≤ blocks → IsBytes new → IsStored blocks old → Clears start end old new → IsStored blocks new
run_stored blocks start end old new within small stored h = record {
  long = h.long ∙ stored.long;
  small = small;
  clear = λ n large. h.behind n (omega arith) ∙ stored.clear n large;
}
