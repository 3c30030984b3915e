-- The bytes of units of 16 bits, both ways.
use Rattle.std.proofs.Common.{◌≡◌, ℕ, ◌+◌, ◌*◌, ◌/◌, ◌%◌, ◌<◌, suc, List, [], ◌∷◌, length, All, refl, ap₂, arith}
use Rattle.std.specs.List.{flat_map}
use Rattle.std.proofs.lemmas.List.Elements.{All-cons}
use Rattle.udf_text.specs.Compressed.{unit_bytes, units, IsBytes}

pub read_units : (us : List ℕ) → units (flat_map unit_bytes us) ≡ us
unfolding units
read_units [] = refl
read_units (u ∷ us) = ap₂ (λ x y. x ∷ y) (omega arith) (read_units us)

pub whole_units : (bytes : List ℕ) → IsBytes bytes → length bytes % 2 ≡ 0 → flat_map unit_bytes (units bytes) ≡ bytes
unfolding units
whole_units [] b e = refl
whole_units (x ∷ []) b e = absurd (omega arith)
whole_units (high ∷ low ∷ bytes) b e =
    let small : low < 256 = b 1 0 (omega arith) in
    let h : (high * 256 + low) / 256 ≡ high = omega arith in
    let l : (high * 256 + low) % 256 ≡ low = omega arith in
    ap₂ (λ x y. x ∷ y) h (ap₂ (λ x y. x ∷ y) l (whole_units bytes (λ k d i. b (suc (suc k)) d (omega arith)) (omega arith)))

pub small_units : (bytes : List ℕ) → IsBytes bytes → All (λ u. u < 0x1_0000) (units bytes)
unfolding units
small_units [] b = λ k d l. absurd (omega arith)
small_units (x ∷ []) b = λ k d l. absurd (omega arith)
small_units (high ∷ low ∷ bytes) b =
    let h : high < 256 = b 0 0 (omega arith) in
    let l : low < 256 = b 1 0 (omega arith) in
    All-cons (λ u. u < 0x1_0000) _ _ (omega arith) (small_units bytes (λ k d i. b (suc (suc k)) d (omega arith)))

pub length_bytes : (us : List ℕ) → length (flat_map unit_bytes us) ≡ 2 * length us
length_bytes [] = refl
length_bytes (u ∷ us) = omega (arith, length_bytes us)
