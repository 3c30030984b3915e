-- Sums of polynomials over two elements.
use Rattle.std.proofs.Common.{◌≡◌, ℕ, ◌+◌, ◌*◌, ◌^◌, arith, sym, ◌∙◌, ap, add-zero}
use Rattle.std.specs.Int.Bits.{bit_xor, xor_zero_l}
use Rattle.std.proofs.lemmas.Nat.{xor_block, pow_pos}
use Rattle.std.proofs.lemmas.Nat.Bits.{bit_at_xor, same_from_bits}

pub exchange : (a b c d : ℕ) → bit_xor (bit_xor a b) (bit_xor c d) ≡ bit_xor (bit_xor a c) (bit_xor b d)
exchange a b c d = same_from_bits _ _ (λ i. simp bit_at_xor (omega arith))

pub cancel : (a b c d : ℕ) → bit_xor a b ≡ bit_xor c d → bit_xor a c ≡ bit_xor b d
cancel a b c d e =
    let left : bit_xor a c ≡ bit_xor (bit_xor a b) (bit_xor b c) =
    same_from_bits _ _ (λ i. simp bit_at_xor (omega arith)) in
    let right : bit_xor (bit_xor c d) (bit_xor b c) ≡ bit_xor b d =
    same_from_bits _ _ (λ i. simp bit_at_xor (omega arith)) in
    left ∙ ap (λ v. bit_xor v (bit_xor b c)) e ∙ right

pub equal : (a b : ℕ) → bit_xor a b ≡ 0 → a ≡ b
equal a b e =
    let left : a ≡ bit_xor (bit_xor a b) b = same_from_bits _ _ (λ i. simp bit_at_xor (omega arith)) in
    left ∙ ap (λ v. bit_xor v b) e ∙ xor_zero_l b

pub times : (a b k : ℕ) → bit_xor a b * 2 ^ k ≡ bit_xor (a * 2 ^ k) (b * 2 ^ k)
times a b k =
    let e : bit_xor (a * 2 ^ k + 0) (b * 2 ^ k + 0) ≡ bit_xor a b * 2 ^ k + bit_xor 0 0 =
    xor_block k a b 0 0 (pow_pos k) (pow_pos k) in
    sym (simp add-zero at e)
