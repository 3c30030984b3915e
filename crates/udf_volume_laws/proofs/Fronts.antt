-- A tag is read from the front of its area that it covers.
use Rattle.std.proofs.Common.{◌≡◌, ℕ, ◌+◌, ◌-◌, ◌%◌, ◌≤◌, arith, sym, ◌∙◌, ap, List, take, drop, get_or, length, true, ◌&&◌, eqb, leb}
use Rattle.std.specs.Prelude.{sum}
use Rattle.std.proofs.lemmas.Bool.{and_parts, and_from, leb-true, le-leb}
use Rattle.std.proofs.lemmas.List.{get_or-take, take-take, drop-take, length-take-le}
use Rattle.udf_model.specs.Bytes.{number_at}
use Rattle.udf_model.specs.Crc.{crc_of}
use Rattle.udf_model.specs.Tag.{is_whole, checksum_of, crc_length, covered, identifier, location}
use Rattle.udf_model.proofs.Written.{same_number}

front_number : (most n at : ℕ) (area : List ℕ) → at + n ≤ most → number_at n (take most area) at ≡ number_at n area at
front_number most n at area h = same_number n at (take most area) area (λ k l m. get_or-take most area k 0 (omega arith))

front_part : (most n at : ℕ) (area : List ℕ) → at + n ≤ most → take n (drop at (take most area)) ≡ take n (drop at area)
front_part most n at area h =
    let split : most ≡ at + (most - at) = omega arith in
    ap (λ m. take n (drop at (take m area))) split ∙ ap (take n) (drop-take at (most - at) area) ∙ take-take n (most - at) (drop at area) (omega arith)

pub front_crc_length : (most : ℕ) (area : List ℕ) → 16 ≤ most → crc_length (take most area) ≡ crc_length area
front_crc_length most area h = front_number most 2 10 area (omega arith)

pub front_location : (most : ℕ) (area : List ℕ) → 16 ≤ most → location (take most area) ≡ location area
front_location most area h = front_number most 4 12 area (omega arith)

pub front_identifier : (most : ℕ) (area : List ℕ) → 16 ≤ most → identifier (take most area) ≡ identifier area
front_identifier most area h = front_number most 2 0 area (omega arith)

front_checksum : (most : ℕ) (area : List ℕ) → 16 ≤ most → checksum_of (take most area) ≡ checksum_of area
unfolding checksum_of
front_checksum most area h =
    ap (λ l. (sum l + sum (take 11 (drop 5 (take most area)))) % 256) (take-take 4 most area (omega arith))
    ∙ ap (λ l. (sum (take 4 area) + sum l) % 256) (front_part most 11 5 area (omega arith))

-- the checksum and the CRC, for an area and its front
front_tag : (most : ℕ) (area : List ℕ) → 16 ≤ most → 16 + crc_length area ≤ most
    → ((eqb (get_or (take most area) 4 0) (checksum_of (take most area))) && (eqb (crc_of (covered (take most area))) (number_at 2 (take most area) 8)))
    ≡ ((eqb (get_or area 4 0) (checksum_of area)) && (eqb (crc_of (covered area)) (number_at 2 area 8)))
front_tag most area h covers =
    let same : covered (take most area) ≡ covered area =
    ap (λ n. take n (drop 16 (take most area))) (front_crc_length most area h) ∙ front_part most (crc_length area) 16 area covers in
    ap (λ n. (eqb n (checksum_of (take most area))) && (eqb (crc_of (covered (take most area))) (number_at 2 (take most area) 8))) (get_or-take most area 4 0 (omega arith))
    ∙ ap (λ n. (eqb (get_or area 4 0) n) && (eqb (crc_of (covered (take most area))) (number_at 2 (take most area) 8))) (front_checksum most area h)
    ∙ ap (λ l. (eqb (get_or area 4 0) (checksum_of area)) && (eqb (crc_of l) (number_at 2 (take most area) 8))) same
    ∙ ap (λ n. (eqb (get_or area 4 0) (checksum_of area)) && (eqb (crc_of (covered area)) n)) (front_number most 2 8 area (omega arith))

-- the front of a whole area is whole, where the tag covers no more
pub front_whole : (most : ℕ) (area : List ℕ) → 16 ≤ most → most ≤ length area → 16 + crc_length area ≤ most → is_whole area ≡ true → is_whole (take most area) ≡ true
unfolding is_whole
front_whole most area h long covers whole =
    let parts = and_parts (leb (16 + crc_length area) (length area)) _ whole in
    and_from _ _ (le-leb _ _ (omega (arith, front_crc_length most area h, length-take-le most area long))) (front_tag most area h covers ∙ parts.1)

-- an area with a whole front is whole
pub whole_front : (most : ℕ) (area : List ℕ) → 16 ≤ most → most ≤ length area → is_whole (take most area) ≡ true → is_whole area ≡ true
unfolding is_whole
whole_front most area h long whole =
    let parts = and_parts (leb (16 + crc_length (take most area)) (length (take most area))) _ whole in
    let covers : 16 + crc_length area ≤ most =
    omega (arith, front_crc_length most area h, length-take-le most area long, leb-true _ _ parts.0) in
    and_from _ _ (le-leb _ _ (omega arith)) (sym (front_tag most area h covers) ∙ parts.1)
