-- The test of a whole tag, step by step.
use Rattle.std.proofs.Common.{◌≡◌, ◌≢◌, ℕ, ◌+◌, ◌<◌, ◌≤◌, arith, refl, sym, ◌∙◌, ap, List, length, take, drop, get_or, false, ◌&&◌, eqb, leb}
use Rattle.std.proofs.Math.Bool.{and-false}
use Rattle.std.proofs.lemmas.Bool.{le-leb, eq-eqb, lt-leb, ne_eqb}
use Rattle.udf_model.specs.Bytes.{number_at}
use Rattle.udf_model.specs.Crc.{crc_of}
use Rattle.udf_model.specs.Tag.{is_whole, checksum_of}

pub too_short : (area : List ℕ) (n : ℕ) → n ≡ number_at 2 area 10 → length area < 16 + n → false ≡ is_whole area
unfolding is_whole
too_short area n is short =
    let none : leb (16 + number_at 2 area 10) (length area) ≡ false = lt-leb _ _ (omega (arith, is)) in
    sym (ap (λ x. x && (eqb (get_or area 4 0) (checksum_of area) && eqb (crc_of (take (number_at 2 area 10) (drop 16 area))) (number_at 2 area 8))) none)

pub wrong_sum : (area : List ℕ) → get_or area 4 0 ≢ checksum_of area → false ≡ is_whole area
unfolding is_whole
wrong_sum area wrong =
    sym (ap (λ x. leb (16 + number_at 2 area 10) (length area) && (x && eqb (crc_of (take (number_at 2 area 10) (drop 16 area))) (number_at 2 area 8)))
    (ne_eqb _ _ wrong)
    ∙ and-false (leb (16 + number_at 2 area 10) (length area)))

pub last_test : (area covered : List ℕ) (n crc stored : ℕ) → n ≡ number_at 2 area 10 → 16 + n ≤ length area → get_or area 4 0 ≡ checksum_of area
    → covered ≡ take n (drop 16 area) → crc ≡ crc_of covered → stored ≡ number_at 2 area 8 → eqb crc stored ≡ is_whole area
unfolding is_whole
last_test area covered n crc stored is room sum part of at =
    ap (λ x. eqb x stored) (of ∙ ap crc_of part ∙ ap (λ k. crc_of (take k (drop 16 area))) is)
    ∙ ap (λ x. eqb (crc_of (take (number_at 2 area 10) (drop 16 area))) x) at
    ∙ sym (ap (λ x. x && (eqb (get_or area 4 0) (checksum_of area) && eqb (crc_of (take (number_at 2 area 10) (drop 16 area))) (number_at 2 area 8))) (le-leb _ _ (omega (arith, is)))
    ∙ ap (λ x. x && eqb (crc_of (take (number_at 2 area 10) (drop 16 area))) (number_at 2 area 8)) (eq-eqb _ _ sum))

pub short_of_16 : (area : List ℕ) → length area < 16 → is_whole area ≡ false
short_of_16 area short = sym (too_short area (number_at 2 area 10) refl (omega arith))
