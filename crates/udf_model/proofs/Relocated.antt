-- An area at another location: what stays, what is new, and that its tag is whole where it was.
use Rattle.std.proofs.Common.{◌≡◌, ℕ, ◌+◌, ◌^◌, ◌<◌, ◌≤◌, arith, refl, sym, ◌∙◌, ap, subst, List, ◌∷◌, ◌++◌, length, take, drop, get_or, Some, None, true, cond, ◌&&◌, eqb, leb, map, zero, suc}
use Rattle.std.proofs.lemmas.List.{get_or-take, take-append-drop, length-take-le}
use Rattle.std.proofs.lemmas.List.FromFn.{fill_by_all}
use Rattle.std.proofs.lemmas.Bool.{and_parts, and_from, eq-eqb}
use Rattle.std.specs.List.{range_with_len}
use Rattle.byteorder.specs.Numbers.{little_number-reads_back}
use Rattle.udf_model.specs.Bytes.{IsBytes, number_at, with_number}
use Rattle.udf_model.specs.Tag.{is_whole, checksum_of, crc_length, identifier, location, id_at, summed, relocated}
use Rattle.udf_model.proofs.Parts.{append_is_bytes, take_is_bytes, drop_is_bytes}
use Rattle.udf_model.proofs.Written.{number_is_bytes}

-- what holds of sixteen bytes and more holds of an area that has room for a tag
pub by_sixteen : (P : List ℕ → Type 0)
    → ((a b c d e f g h i j k l m n o p : ℕ) (rest : List ℕ) → P (a ∷ b ∷ c ∷ d ∷ e ∷ f ∷ g ∷ h ∷ i ∷ j ∷ k ∷ l ∷ m ∷ n ∷ o ∷ p ∷ rest))
    → (area : List ℕ) → 16 ≤ length area → P area
by_sixteen P holds area room =
    let at : ℕ → ℕ = λ n. get_or area n 0 in
    let front : take 16 area ≡ map at (range_with_len 0 16) =
    fill_by_all at (take 16 area) 16 0 (length-take-le 16 area room) (λ n l. get_or-take 16 area n 0 l) in
    let whole : map at (range_with_len 0 16) ++ drop 16 area ≡ area = ap (λ tag. tag ++ drop 16 area) (sym front) ∙ take-append-drop 16 area in
    subst P whole (holds (at 0) (at 1) (at 2) (at 3) (at 4) (at 5) (at 6) (at 7) (at 8) (at 9) (at 10) (at 11) (at 12) (at 13) (at 14) (at 15) (drop 16 area))

pub relocated_length : (at : ℕ) (area : List ℕ) → 16 ≤ length area → length (relocated at area) ≡ length area
unfolding relocated with_number summed
relocated_length at = by_sixteen (λ area. length (relocated at area) ≡ length area) (λ a b c d e f g h i j k l m n o p rest. refl)

-- the bytes before the checksum, those between it and the location, and those after the tag
pub relocated_front : (at : ℕ) (area : List ℕ) → 16 ≤ length area → take 4 (relocated at area) ≡ take 4 area
unfolding relocated with_number summed
relocated_front at = by_sixteen (λ area. take 4 (relocated at area) ≡ take 4 area) (λ a b c d e f g h i j k l m n o p rest. refl)

pub relocated_middle : (at : ℕ) (area : List ℕ) → 16 ≤ length area → take 7 (drop 5 (relocated at area)) ≡ take 7 (drop 5 area)
unfolding relocated with_number summed
relocated_middle at = by_sixteen (λ area. take 7 (drop 5 (relocated at area)) ≡ take 7 (drop 5 area)) (λ a b c d e f g h i j k l m n o p rest. refl)

pub relocated_body : (at : ℕ) (area : List ℕ) → 16 ≤ length area → drop 16 (relocated at area) ≡ drop 16 area
unfolding relocated with_number summed
relocated_body at = by_sixteen (λ area. drop 16 (relocated at area) ≡ drop 16 area) (λ a b c d e f g h i j k l m n o p rest. refl)

pub relocated_identifier : (at : ℕ) (area : List ℕ) → 16 ≤ length area → identifier (relocated at area) ≡ identifier area
unfolding relocated with_number summed number_at
relocated_identifier at = by_sixteen (λ area. identifier (relocated at area) ≡ identifier area) (λ a b c d e f g h i j k l m n o p rest. refl)

pub relocated_location : (at : ℕ) (area : List ℕ) → 16 ≤ length area → at < 2 ^ 32 → location (relocated at area) ≡ at
unfolding relocated with_number summed number_at
relocated_location at area room fits =
    by_sixteen (λ xs. location (relocated at xs) ≡ at) (λ a b c d e f g h i j k l m n o p rest. little_number-reads_back 4 at rest fits) area room

pub relocated_checksum : (at : ℕ) (area : List ℕ) → 16 ≤ length area → get_or (relocated at area) 4 0 ≡ checksum_of (relocated at area)
unfolding relocated with_number summed checksum_of
relocated_checksum at = by_sixteen (λ area. get_or (relocated at area) 4 0 ≡ checksum_of (relocated at area)) (λ a b c d e f g h i j k l m n o p rest. refl)

pub relocated_whole : (at : ℕ) (area : List ℕ) → 16 ≤ length area → is_whole area ≡ true → is_whole (relocated at area) ≡ true
unfolding relocated with_number summed number_at is_whole checksum_of
relocated_whole at = by_sixteen (λ area. is_whole area ≡ true → is_whole (relocated at area) ≡ true) (λ a b c d e f g h i j k l m n o p rest w.
    let area : List ℕ = a ∷ b ∷ c ∷ d ∷ e ∷ f ∷ g ∷ h ∷ i ∷ j ∷ k ∷ l ∷ m ∷ n ∷ o ∷ p ∷ rest in
    let first = and_parts (leb (16 + crc_length area) (length area)) _ w in
    let second = and_parts (eqb (get_or area 4 0) (checksum_of area)) _ first.1 in
    and_from _ _ first.0 (and_from _ _ (eq-eqb _ _ refl) second.1))

-- a whole area is whole at its location
pub found_at : (at id : ℕ) (area : List ℕ) → is_whole area ≡ true → location area ≡ at → identifier area ≡ id → id_at at area ≡ Some id
unfolding id_at
found_at at id area whole is same =
    let test : (is_whole area && eqb (location area) at) ≡ true = and_from _ _ whole (eq-eqb _ _ is) in
    ap (λ b. cond b (Some (identifier area)) None) test ∙ ap Some same

pub relocated_id : (at : ℕ) (area : List ℕ) → 16 ≤ length area → at < 2 ^ 32 → is_whole area ≡ true → id_at at (relocated at area) ≡ Some (identifier area)
relocated_id at area room fits whole =
    found_at at (identifier area) (relocated at area) (relocated_whole at area room whole) (relocated_location at area room fits) (relocated_identifier at area room)

summed_is_bytes : (area : List ℕ) → IsBytes area → IsBytes (summed area)
unfolding summed checksum_of
summed_is_bytes area old = append_is_bytes (take 4 area) (checksum_of area ∷ drop 5 area) (take_is_bytes 4 area old) rest where
  rest : IsBytes (checksum_of area ∷ drop 5 area)
  rest zero = omega arith
  rest (suc i) = drop_is_bytes 5 area old i

pub relocated_is_bytes : (at : ℕ) (area : List ℕ) → IsBytes area → IsBytes (relocated at area)
unfolding relocated
relocated_is_bytes at area old = summed_is_bytes (with_number 4 12 at area) (number_is_bytes 4 12 at area old)
