-- The table of the CRC.
use Rattle.std.proofs.Common.{◌≡◌, ℕ, zero, suc, ◌+◌, ◌*◌, ◌/◌, ◌%◌, ◌^◌, ◌<◌, arith, refl, zero-add, sym, ◌∙◌, ap, List, [], ◌∷◌, ◌++◌, Bool, true, ◌&&◌, get_or, length, take, eqb}
use Rattle.std.specs.Int.Bits.{bit_xor, xor_zero_r}
use Rattle.std.proofs.lemmas.Bool.{and_parts, eqb-true}
use Rattle.std.proofs.lemmas.Nat.{xor_lt, xor_shr, xor_mod}
use Rattle.std.proofs.lemmas.List.Sums.{fold-append}
use Rattle.std.proofs.lemmas.List.{take_more}
use Rattle.udf_model.specs.Bytes.{IsBytes}
use Rattle.udf_model.specs.Crc.{times_x, times_x8, crc_of}
use Rattle.udf_model.proofs.Remainder.{times_x8_split}
use Rattle.udf_field.specs.declared.remainder.TheConstants.{TABLE}

-- the entries from i on are right
agrees : ℕ → List ℕ → Bool
agrees i [] = true
agrees i (x ∷ xs) = eqb x (times_x8 (i * 256)) && agrees (suc i) xs

table_agrees : agrees 0 TABLE ≡ true
unfolding agrees times_x8 times_x
table_agrees = refl

entry_from : (i : ℕ) (xs : List ℕ) → agrees i xs ≡ true → (k : ℕ) → k < length xs → get_or xs k 0 ≡ times_x8 ((i + k) * 256)
unfolding agrees
entry_from i [] e k h = absurd (omega arith)
entry_from i (x ∷ xs) e zero h =
    eqb-true _ _ (and_parts _ _ e).0 ∙ ap (λ n. times_x8 (n * 256)) (let z : i ≡ i + 0 = omega arith in z)
entry_from i (x ∷ xs) e (suc k) h =
    entry_from (suc i) xs (and_parts _ _ e).1 k (omega arith)
    ∙ ap (λ n. times_x8 (n * 256)) (let z : suc i + k ≡ i + suc k = omega arith in z)

pub entry : (k : ℕ) → k < 256 → get_or TABLE k 0 ≡ times_x8 (k * 256)
entry k h = entry_from 0 TABLE table_agrees k h ∙ ap (λ n. times_x8 (n * 256)) (zero-add k)

pub table_step : (r b : ℕ) → r < 2 ^ 16 → b < 256
    → bit_xor (r % 256 * 256) (times_x8 (bit_xor (r / 256) b * 256)) ≡ times_x8 (bit_xor r (b * 256))
table_step r b hr hb =
    let v : ℕ = bit_xor r (b * 256) in
    let fits : b * 256 < 65536 = omega arith in
    let low : v % 256 ≡ r % 256 =
    xor_mod r (b * 256) 8 ∙ ap (λ w. bit_xor (r % 256) w) (let e : b * 256 % 256 ≡ 0 = omega arith in e) ∙ xor_zero_r (r % 256) in
    let high : v / 256 ≡ bit_xor (r / 256) b =
    xor_shr r (b * 256) 8 ∙ ap (λ w. bit_xor (r / 256) w) (let e : b * 256 / 256 ≡ b = omega arith in e) in
    sym (times_x8_split v (xor_lt 16 r (b * 256) hr fits)
    ∙ ap (λ w. bit_xor (w * 256) (times_x8 (v / 256 * 256))) low
    ∙ ap (λ w. bit_xor (r % 256 * 256) (times_x8 (w * 256))) high)

pub crc_more : (bytes : List ℕ) (b : ℕ) → crc_of (bytes ++ b ∷ []) ≡ times_x8 (bit_xor (crc_of bytes) (b * 256))
unfolding crc_of
crc_more bytes b = fold-append (λ r byte. times_x8 (bit_xor r (byte * 2 ^ 8))) 0 bytes (b ∷ [])

pub crc_none : crc_of [] ≡ 0
unfolding crc_of
crc_none = refl

pub crc_next : (bytes : List ℕ) (i r s : ℕ) → i < length bytes → IsBytes bytes → r < 2 ^ 16 → r ≡ crc_of (take i bytes)
    → s ≡ times_x8 (bit_xor (r / 256) (get_or bytes i 0) * 256) → bit_xor (r % 256 * 256) s ≡ crc_of (take (i + 1) bytes)
crc_next bytes i r s h small fits is shifted =
    ap (λ w. bit_xor (r % 256 * 256) w) shifted
    ∙ table_step r (get_or bytes i 0) fits (small i)
    ∙ ap (λ w. times_x8 (bit_xor w (get_or bytes i 0 * 256))) is
    ∙ sym (crc_more (take i bytes) (get_or bytes i 0))
    ∙ ap crc_of (sym (take_more bytes i 0 h))
