-- A tag made anew is whole.
use Rattle.std.proofs.Common.{◌≡◌, ℕ, ◌+◌, ◌^◌, ◌<◌, ◌≤◌, arith, refl, sym, ◌∙◌, ap, List, [], length, take, drop, get_or, true, Some}
use Rattle.std.proofs.lemmas.Bool.{and_from, eq-eqb, le-leb}
use Rattle.byteorder.specs.Numbers.{little_number-reads_back}
use Rattle.udf_model.specs.Bytes.{number_at, IsBytes, with_number}
use Rattle.udf_model.specs.Crc.{crc_of, IsCrc}
use Rattle.udf_model.specs.Tag.{is_whole, checksum_of, crc_length, covered, identifier, location, id_at, summed, relocated, retagged}
use Rattle.udf_model.proofs.Parts.{take_is_bytes, drop_is_bytes}
use Rattle.udf_model.proofs.Remainder.{is_crc}
use Rattle.udf_model.proofs.Written.{number_is_bytes}
use Rattle.udf_model.proofs.Relocated.{by_sixteen, found_at, relocated_is_bytes}

pub retagged_length : (at many : ℕ) (area : List ℕ) → 16 ≤ length area → length (retagged at many area) ≡ length area
unfolding retagged with_number relocated summed
retagged_length at many = by_sixteen (λ area. length (retagged at many area) ≡ length area) (λ a b c d e f g h i j k l m n o p rest. refl)

-- the bytes before the checksum, those between it and the CRC, and those after the tag
pub retagged_front : (at many : ℕ) (area : List ℕ) → 16 ≤ length area → take 4 (retagged at many area) ≡ take 4 area
unfolding retagged with_number relocated summed
retagged_front at many = by_sixteen (λ area. take 4 (retagged at many area) ≡ take 4 area) (λ a b c d e f g h i j k l m n o p rest. refl)

pub retagged_middle : (at many : ℕ) (area : List ℕ) → 16 ≤ length area → take 3 (drop 5 (retagged at many area)) ≡ take 3 (drop 5 area)
unfolding retagged with_number relocated summed
retagged_middle at many = by_sixteen (λ area. take 3 (drop 5 (retagged at many area)) ≡ take 3 (drop 5 area)) (λ a b c d e f g h i j k l m n o p rest. refl)

pub retagged_body : (at many : ℕ) (area : List ℕ) → 16 ≤ length area → drop 16 (retagged at many area) ≡ drop 16 area
unfolding retagged with_number relocated summed
retagged_body at many = by_sixteen (λ area. drop 16 (retagged at many area) ≡ drop 16 area) (λ a b c d e f g h i j k l m n o p rest. refl)

pub retagged_identifier : (at many : ℕ) (area : List ℕ) → 16 ≤ length area → identifier (retagged at many area) ≡ identifier area
unfolding retagged with_number relocated summed number_at
retagged_identifier at many = by_sixteen (λ area. identifier (retagged at many area) ≡ identifier area) (λ a b c d e f g h i j k l m n o p rest. refl)

pub retagged_location : (at many : ℕ) (area : List ℕ) → 16 ≤ length area → at < 2 ^ 32 → location (retagged at many area) ≡ at
unfolding retagged with_number relocated summed number_at
retagged_location at many area room fits =
    by_sixteen (λ xs. location (retagged at many xs) ≡ at) (λ a b c d e f g h i j k l m n o p rest. little_number-reads_back 4 at rest fits) area room

pub retagged_covers : (at many : ℕ) (area : List ℕ) → 16 ≤ length area → many < 2 ^ 16 → crc_length (retagged at many area) ≡ many
unfolding retagged with_number relocated summed number_at
retagged_covers at many area room fits =
    by_sixteen (λ xs. crc_length (retagged at many xs) ≡ many) (λ a b c d e f g h i j k l m n o p rest. little_number-reads_back 2 many [] fits) area room

crc_fits : (many : ℕ) (area : List ℕ) → IsBytes area → crc_of (take many (drop 16 area)) < 2 ^ 16
crc_fits many area bytes =
    let is : IsCrc (take many (drop 16 area)) (crc_of (take many (drop 16 area))) =
    is_crc (take many (drop 16 area)) (take_is_bytes many (drop 16 area) (drop_is_bytes 16 area bytes)) in
    is.below

retagged_crc : (at many : ℕ) (area : List ℕ) → 16 ≤ length area → crc_of (take many (drop 16 area)) < 2 ^ 16
    → number_at 2 (retagged at many area) 8 ≡ crc_of (take many (drop 16 area))
unfolding retagged with_number relocated summed number_at
retagged_crc at many area room =
    by_sixteen (λ xs. crc_of (take many (drop 16 xs)) < 2 ^ 16 → number_at 2 (retagged at many xs) 8 ≡ crc_of (take many (drop 16 xs)))
    (λ a b c d e f g h i j k l m n o p rest fits. little_number-reads_back 2 (crc_of (take many rest)) [] fits) area room

retagged_sum : (at many : ℕ) (area : List ℕ) → 16 ≤ length area → get_or (retagged at many area) 4 0 ≡ checksum_of (retagged at many area)
unfolding retagged with_number relocated summed checksum_of
retagged_sum at many = by_sixteen (λ area. get_or (retagged at many area) 4 0 ≡ checksum_of (retagged at many area)) (λ a b c d e f g h i j k l m n o p rest. refl)

-- a CRC that fits its field is what it takes
pub whole_by_crc : (at many : ℕ) (area : List ℕ) → 16 + many ≤ length area → many < 2 ^ 16 → crc_of (take many (drop 16 area)) < 2 ^ 16
    → is_whole (retagged at many area) ≡ true
unfolding is_whole
whole_by_crc at many area room fits small =
    let large : 16 ≤ length area = omega arith in
    let covers : crc_length (retagged at many area) ≡ many = retagged_covers at many area large fits in
    let long : length (retagged at many area) ≡ length area = retagged_length at many area large in
    let same : covered (retagged at many area) ≡ take many (drop 16 area) =
    ap (λ n. take n (drop 16 (retagged at many area))) covers ∙ ap (take many) (retagged_body at many area large) in
    and_from _ _ (le-leb (16 + crc_length (retagged at many area)) (length (retagged at many area)) (omega arith))
    (and_from _ _ (eq-eqb _ _ (retagged_sum at many area large))
    (eq-eqb _ _ (ap crc_of same ∙ sym (retagged_crc at many area large small))))

pub retagged_whole : (at many : ℕ) (area : List ℕ) → IsBytes area → 16 + many ≤ length area → many < 2 ^ 16 → is_whole (retagged at many area) ≡ true
retagged_whole at many area bytes room fits = whole_by_crc at many area room fits (crc_fits many area bytes)

pub found_by_crc : (at many : ℕ) (area : List ℕ) → 16 + many ≤ length area → many < 2 ^ 16 → at < 2 ^ 32 → crc_of (take many (drop 16 area)) < 2 ^ 16
    → id_at at (retagged at many area) ≡ Some (identifier area)
found_by_crc at many area room fits place small =
    let large : 16 ≤ length area = omega arith in
    found_at at (identifier area) (retagged at many area) (whole_by_crc at many area room fits small) (retagged_location at many area large place)
    (retagged_identifier at many area large)

pub retagged_id : (at many : ℕ) (area : List ℕ) → IsBytes area → 16 + many ≤ length area → many < 2 ^ 16 → at < 2 ^ 32
    → id_at at (retagged at many area) ≡ Some (identifier area)
retagged_id at many area bytes room fits place = found_by_crc at many area room fits place (crc_fits many area bytes)

pub retagged_is_bytes : (at many : ℕ) (area : List ℕ) → IsBytes area → IsBytes (retagged at many area)
unfolding retagged
retagged_is_bytes at many area old =
    relocated_is_bytes at (with_number 2 8 (crc_of (take many (drop 16 area))) (with_number 2 10 many area))
    (number_is_bytes 2 8 (crc_of (take many (drop 16 area))) (with_number 2 10 many area) (number_is_bytes 2 10 many area old))
