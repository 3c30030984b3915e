-- The remainder is unique, and Horner's scheme gives it.
use Rattle.std.proofs.Common.{◌≡◌, ℕ, zero, suc, ◌+◌, ◌-◌, ◌*◌, ◌/◌, ◌%◌, ◌^◌, ◌<◌, ◌≤◌, arith, refl, sym, ◌∙◌, ap, subst, List, [], ◌∷◌, ltb, true, false, cond, Bool, lit<, zero-add, pow-suc, ltb-true, ltb-false}
use Rattle.std.specs.Int.Bits.{bit_xor, xor_zero_l, xor_assoc}
use Rattle.std.proofs.lemmas.Nat.{xor_comm, xor_lt, xor_shr}
use Rattle.std.proofs.lemmas.Nat.Bits.{bit_at_xor, same_from_bits}
use Rattle.udf_model.specs.Bytes.{IsBytes}
use Rattle.udf_model.specs.Crc.{times_generator, IsRemainder, IsCrc, times_x, times_x8, crc_of}
use Rattle.udf_model.proofs.Xor.{exchange, cancel, equal, times}
use Rattle.std.specs.List.{fold}
use lib.Bits.{xor_shifted, xor_block}

pub generator_of_sum : (q p : ℕ) → bit_xor (times_generator q) (times_generator p) ≡ times_generator (bit_xor q p)
unfolding times_generator
generator_of_sum q p =
    exchange (bit_xor (q * 65536) (q * 4096)) (bit_xor (q * 32) q) (bit_xor (p * 65536) (p * 4096)) (bit_xor (p * 32) p)
    ∙ ap (λ v. bit_xor v (bit_xor (bit_xor (q * 32) q) (bit_xor (p * 32) p)))
    (exchange (q * 65536) (q * 4096) (p * 65536) (p * 4096)
    ∙ ap (λ v. bit_xor v (bit_xor (q * 4096) (p * 4096))) (sym (times q p 16))
    ∙ ap (λ v. bit_xor (bit_xor q p * 65536) v) (sym (times q p 12)))
    ∙ ap (λ v. bit_xor (bit_xor (bit_xor q p * 65536) (bit_xor q p * 4096)) v)
    (exchange (q * 32) q (p * 32) p ∙ ap (λ v. bit_xor v (bit_xor q p)) (sym (times q p 5)))

turned : (a b c : ℕ) → a * b * c ≡ a * c * b
turned a b c = grind arith

pub generator_of_shift : (q k : ℕ) → times_generator q * 2 ^ k ≡ times_generator (q * 2 ^ k)
unfolding times_generator
generator_of_shift q k =
    times (bit_xor (q * 65536) (q * 4096)) (bit_xor (q * 32) q) k
    ∙ ap (λ v. bit_xor v (bit_xor (q * 32) q * 2 ^ k)) (times (q * 65536) (q * 4096) k)
    ∙ ap (λ v. bit_xor (bit_xor (q * 65536 * 2 ^ k) (q * 4096 * 2 ^ k)) v) (times (q * 32) q k)
    ∙ ap (λ v. bit_xor (bit_xor v (q * 4096 * 2 ^ k)) (bit_xor (q * 32 * 2 ^ k) (q * 2 ^ k))) (turned q 65536 (2 ^ k))
    ∙ ap (λ v. bit_xor (bit_xor (q * 2 ^ k * 65536) v) (bit_xor (q * 32 * 2 ^ k) (q * 2 ^ k))) (turned q 4096 (2 ^ k))
    ∙ ap (λ v. bit_xor (bit_xor (q * 2 ^ k * 65536) (q * 2 ^ k * 4096)) (bit_xor v (q * 2 ^ k))) (turned q 32 (2 ^ k))

pub remainder_of_sum : (p q r s : ℕ) → IsRemainder p r → IsRemainder q s → IsRemainder (bit_xor p q) (bit_xor r s)
remainder_of_sum p q r s f g = record {
  below = xor_lt 16 r s f.below g.below;
  quotient = bit_xor f.quotient g.quotient;
  division =
      ap (λ v. bit_xor v q) f.division
      ∙ ap (λ v. bit_xor (bit_xor (times_generator f.quotient) r) v) g.division
      ∙ exchange (times_generator f.quotient) r (times_generator g.quotient) s
      ∙ ap (λ v. bit_xor v (bit_xor r s)) (generator_of_sum f.quotient g.quotient);
}

generator_zero : times_generator 0 ≡ 0
unfolding times_generator
generator_zero = refl

pub remainder_of_small : (r : ℕ) → r < 2 ^ 16 → IsRemainder r r
remainder_of_small r small = record {
  below = small;
  quotient = 0;
  division = sym (ap (λ v. bit_xor v r) generator_zero ∙ xor_zero_l r);
}

-- a multiple of the generator of degree below 16 is 0
top_of : (q : ℕ) → times_generator q / 2 ^ 16 ≡ bit_xor (bit_xor q (q / 2 ^ 4)) (bit_xor (q / 2 ^ 11) (q / 2 ^ 16))
unfolding times_generator
top_of q =
    let a : q * 65536 / 65536 ≡ q = omega arith in
    let b : q * 4096 / 65536 ≡ q / 16 = omega arith in
    let d : q * 32 / 65536 ≡ q / 2048 = omega arith in
    xor_shr (bit_xor (q * 65536) (q * 4096)) (bit_xor (q * 32) q) 16
    ∙ ap (λ v. bit_xor v (bit_xor (q * 32) q / 65536)) (xor_shr (q * 65536) (q * 4096) 16)
    ∙ ap (λ v. bit_xor (bit_xor (q * 65536 / 65536) (q * 4096 / 65536)) v) (xor_shr (q * 32) q 16)
    ∙ ap (λ v. bit_xor (bit_xor v (q * 4096 / 65536)) (bit_xor (q * 32 / 65536) (q / 65536))) a
    ∙ ap (λ v. bit_xor (bit_xor q v) (bit_xor (q * 32 / 65536) (q / 65536))) b
    ∙ ap (λ v. bit_xor (bit_xor q (q / 16)) (bit_xor v (q / 65536))) d

none_below : (k q : ℕ) → q < 2 ^ k → bit_xor (bit_xor q (q / 2 ^ 4)) (bit_xor (q / 2 ^ 11) (q / 2 ^ 16)) ≡ 0 → q ≡ 0
none_below zero q h e = omega arith
none_below (suc k) q h e =
    let half : q < 2 ^ k * 2 = rw pow-suc at h in
    let p4 : q / 16 < 2 ^ k = omega arith in
    let p11 : q / 2048 < 2 ^ k = omega arith in
    let p16 : q / 65536 < 2 ^ k = omega arith in
    let rest : ℕ = bit_xor (q / 16) (bit_xor (q / 2048) (q / 65536)) in
    let is : q ≡ rest = equal q rest (sym (xor_assoc q (q / 16) (bit_xor (q / 2048) (q / 65536))) ∙ e) in
    let small : rest < 2 ^ k = xor_lt k (q / 16) (bit_xor (q / 2048) (q / 65536)) p4 (xor_lt k (q / 2048) (q / 65536) p11 p16) in
    none_below k q (let P : ℕ → Type 0 = λ n. n < 2 ^ k in subst P (sym is) small) e

below_pow : (n : ℕ) → n < 2 ^ n
below_pow zero = omega arith
below_pow (suc n) = omega (arith, pow-suc 2 n, below_pow n)

pub unique : (p r s : ℕ) → IsRemainder p r → IsRemainder p s → r ≡ s
unique p r s f g =
    let m : ℕ = bit_xor f.quotient g.quotient in
    let e : times_generator m ≡ bit_xor r s =
    sym (generator_of_sum f.quotient g.quotient)
    ∙ cancel (times_generator f.quotient) r (times_generator g.quotient) s (sym f.division ∙ g.division) in
    let small : bit_xor r s < 65536 = xor_lt 16 r s f.below g.below in
    let none : bit_xor r s / 65536 ≡ 0 = omega arith in
    let zero_m : m ≡ 0 = none_below m m (below_pow m) (sym (top_of m) ∙ ap (λ v. v / 65536) e ∙ none) in
    equal r s (sym e ∙ ap times_generator zero_m ∙ generator_zero)

low_of_top : (r : ℕ) → 32768 ≤ r → r < 65536 → bit_xor (r * 2) 69665 < 65536
low_of_top r h l =
    let t : ℕ = r * 2 - 65536 in
    let small : t < 2 ^ 16 = omega arith in
    let split : r * 2 ≡ 1 * 2 ^ 16 + t = omega arith in
    let e : bit_xor (1 * 2 ^ 16 + t) (1 * 2 ^ 16 + 4129) ≡ bit_xor 1 1 * 2 ^ 16 + bit_xor t 4129 =
    xor_block 16 1 1 t 4129 small (lit< tt) in
    let below : bit_xor t 4129 < 65536 = xor_lt 16 t 4129 small (lit< tt) in
    let P : ℕ → Type 0 = λ n. n < 65536 in
    subst P (sym (ap (λ v. bit_xor v 69665) split ∙ e ∙ zero-add (bit_xor t 4129))) below

generator_one : times_generator 1 ≡ 69665
unfolding times_generator
generator_one = refl

inserted : (a b g : ℕ) → bit_xor a b ≡ bit_xor (bit_xor a g) (bit_xor b g)
inserted a b g = same_from_bits _ _ (λ i. simp bit_at_xor (omega arith))

pub remainder_times_x : (p r : ℕ) → IsRemainder p r → IsRemainder (p * 2) (times_x r)
unfolding times_x
remainder_times_x p r f = by_top (ltb r 32768) refl where
  doubled : p * 2 ≡ bit_xor (times_generator (f.quotient * 2)) (r * 2)
  doubled =
      ap (λ v. v * 2) f.division ∙ times (times_generator f.quotient) r 1
      ∙ ap (λ v. bit_xor v (r * 2)) (generator_of_shift f.quotient 1)

  by_top : (b : Bool) → ltb r 32768 ≡ b → IsRemainder (p * 2) (cond b (r * 2) (bit_xor (r * 2) 69665))
  by_top true e = record {
    below = omega (arith, ltb-true r 32768 e);
    quotient = f.quotient * 2;
    division = doubled;
  }
  by_top false e = record {
    below = low_of_top r (ltb-false r 32768 e) f.below;
    quotient = bit_xor (f.quotient * 2) 1;
    division =
        doubled
        ∙ inserted (times_generator (f.quotient * 2)) (r * 2) 69665
        ∙ ap (λ v. bit_xor v (bit_xor (r * 2) 69665))
        (ap (λ v. bit_xor (times_generator (f.quotient * 2)) v) (sym generator_one)
        ∙ generator_of_sum (f.quotient * 2) 1);
  }

pub remainder_times_x8 : (p r : ℕ) → IsRemainder p r → IsRemainder (p * 2 ^ 8) (times_x8 r)
unfolding times_x8
remainder_times_x8 p r f =
    let e : p * 2 * 2 * 2 * 2 * 2 * 2 * 2 * 2 ≡ p * 256 = omega arith in
    let P : ℕ → Type 0 = λ n. IsRemainder n (times_x8 r) in
    subst P e
    (remainder_times_x _ _ (remainder_times_x _ _ (remainder_times_x _ _ (remainder_times_x _ _
    (remainder_times_x _ _ (remainder_times_x _ _ (remainder_times_x _ _ (remainder_times_x p r f))))))))

-- one more byte
pub remainder_step : (p r byte : ℕ) → byte < 256 → IsRemainder (p * 2 ^ 16) r → IsRemainder ((p * 2 ^ 8 + byte) * 2 ^ 16) (times_x8 (bit_xor r (byte * 2 ^ 8)))
remainder_step p r byte small f =
    let fits : byte * 256 < 65536 = omega arith in
    let e : bit_xor (p * 65536) (byte * 256) ≡ p * 65536 + byte * 256 = xor_shifted p 16 (byte * 256) fits in
    let whole : bit_xor (p * 65536) (byte * 256) * 256 ≡ (p * 256 + byte) * 65536 =
    ap (λ v. v * 256) e ∙ (let g : (p * 65536 + byte * 256) * 256 ≡ (p * 256 + byte) * 65536 = omega arith in g) in
    let P : ℕ → Type 0 = λ n. IsRemainder n (times_x8 (bit_xor r (byte * 256))) in
    subst P whole
    (remainder_times_x8 _ _ (remainder_of_sum (p * 65536) (byte * 256) r (byte * 256) f (remainder_of_small (byte * 256) fits)))

remainder_fold : (bytes : List ℕ) → IsBytes bytes → (p r : ℕ) → IsRemainder (p * 2 ^ 16) r
    → IsRemainder (fold (λ q byte. q * 2 ^ 8 + byte) p bytes * 2 ^ 16) (fold (λ q byte. times_x8 (bit_xor q (byte * 2 ^ 8))) r bytes)
remainder_fold [] h p r f = f
remainder_fold (byte ∷ bytes) h p r f =
    remainder_fold bytes (λ i. h (suc i)) (p * 256 + byte) (times_x8 (bit_xor r (byte * 256))) (remainder_step p r byte (h 0) f)

pub is_crc : (bytes : List ℕ) → IsBytes bytes → IsCrc bytes (crc_of bytes)
unfolding crc_of
is_crc bytes h = remainder_fold bytes h 0 0 (remainder_of_small 0 (lit< tt))

pub crc_unique : (bytes : List ℕ) (r s : ℕ) → IsCrc bytes r → IsCrc bytes s → r ≡ s
crc_unique bytes r s f g = unique _ r s f g

-- a byte table: eight steps of v are the low byte moved up, and the steps of the high byte
pub times_x8_split : (v : ℕ) → v < 2 ^ 16 → times_x8 v ≡ bit_xor (v % 256 * 256) (times_x8 (v / 256 * 256))
times_x8_split v h =
    let low : v % 256 < 256 = omega arith in
    let low_fits : v % 256 * 256 < 65536 = omega arith in
    let high_fits : v / 256 * 256 < 65536 = omega arith in
    let e : bit_xor (v / 256 * 256) (v % 256) ≡ v / 256 * 256 + v % 256 = xor_shifted (v / 256) 8 (v % 256) low in
    let is : v / 256 * 256 + v % 256 ≡ v = omega arith in
    let parts : bit_xor (v % 256 * 256) (v / 256 * 256 * 256) ≡ v * 256 =
    sym (times (v % 256) (v / 256 * 256) 8) ∙ ap (λ w. w * 256) (xor_comm (v % 256) (v / 256 * 256) ∙ e ∙ is) in
    let P : ℕ → Type 0 = λ n. IsRemainder n (bit_xor (v % 256 * 256) (times_x8 (v / 256 * 256))) in
    unique (v * 256) _ _ (remainder_times_x8 v v (remainder_of_small v h))
    (subst P parts
    (remainder_of_sum (v % 256 * 256) (v / 256 * 256 * 256) (v % 256 * 256) (times_x8 (v / 256 * 256))
    (remainder_of_small (v % 256 * 256) low_fits)
    (remainder_times_x8 (v / 256 * 256) (v / 256 * 256) (remainder_of_small (v / 256 * 256) high_fits))))
