-- One turn of the loops over bytes and characters.
use Rattle.std.proofs.Common.{◌≡◌, ℕ, ◌+◌, ◌*◌, ◌<◌, ◌≤◌, true, List, [], ◌∷◌, ◌++◌, length, take, drop, get_or, nat_le, refl, sym, ap, ◌∙◌, ⊎_elim, arith, leb-true, append_assoc, append-nil, length-append, take-append-drop}
use Rattle.std.specs.Char.Escape.{encode_utf16}
use Rattle.std.specs.List.{flat_map}
use Rattle.std.proofs.lemmas.Bool.{both_ways}
use Rattle.std.proofs.lemmas.List.{drop_more, drop_all}
use Rattle.std.proofs.lemmas.List.Concat.{flat_map-append}
use Rattle.std.proofs.lemmas.List.Folds.{list_all_at}
use Rattle.udf_text.specs.Compressed.{unit_bytes, units, wide, is_narrow}
use Rattle.udf_text.proofs.Spelling.{tested, length_wide}
use Rattle.udf_text.proofs.Lengths.{unit_count, unit_count-append}

-- the next unit that is read
units_next : (bytes : List ℕ) (at : ℕ) → at + 2 ≤ length bytes → units (drop at bytes) ≡ (get_or bytes at 0 * 256 + get_or bytes (at + 1) 0) ∷ units (drop (at + 2) bytes)
unfolding units
units_next bytes at within =
    ap units (drop_more bytes at 0 (omega arith) ∙ ap (λ l. get_or bytes at 0 ∷ l) (drop_more bytes (at + 1) 0 (omega arith)))
    ∙ ap (λ n. (get_or bytes at 0 * 256 + get_or bytes (at + 1) 0) ∷ units (drop n bytes)) {x = at + 1 + 1} {y = at + 2} (omega arith)

pub units_more : (bytes read : List ℕ) (at unit : ℕ) → at + 2 ≤ length bytes → unit ≡ get_or bytes at 0 * 256 + get_or bytes (at + 1) 0
    → read ++ units (drop at bytes) ≡ units bytes → (read ++ unit ∷ []) ++ units (drop (at + 2) bytes) ≡ units bytes
units_more bytes read at unit within is rest =
    append_assoc read (unit ∷ []) (units (drop (at + 2) bytes))
    ∙ ap (λ u. read ++ u ∷ units (drop (at + 2) bytes)) is
    ∙ ap (λ l. read ++ l) (sym (units_next bytes at within)) ∙ rest

pub units_all : (bytes read : List ℕ) (at : ℕ) → length bytes ≤ at → read ++ units (drop at bytes) ≡ units bytes → read ≡ units bytes
unfolding units
units_all bytes read at past rest = sym (append-nil read) ∙ ap (λ l. read ++ units l) (sym (drop_all at bytes past)) ∙ rest

-- a character of an 8-bit name is a byte
pub narrow_at : (cs : List ℕ) (n d : ℕ) → is_narrow cs ≡ true → n < length cs → get_or cs n d ≤ 255
unfolding is_narrow
narrow_at cs n d narrow within = ⊎_elim
    (λ small. leb-true (get_or cs n d) 255 small)
    (λ large. absurd (both_ways (is_narrow cs) (list_all_at (λ c. nat_le c 255) cs n d within large) narrow))
    (tested (nat_le (get_or cs n d) 255))

-- the bytes of one character of one unit, and of two
units_one : (us : List ℕ) → length us ≡ 1 → us ≡ get_or us 0 0 ∷ []
units_one [] e = absurd (omega arith)
units_one (u ∷ []) e = refl
units_one (u ∷ v ∷ us) e = absurd (omega arith)

units_two : (us : List ℕ) → length us ≡ 2 → us ≡ get_or us 0 0 ∷ get_or us 1 0 ∷ []
units_two [] e = absurd (omega arith)
units_two (u ∷ []) e = absurd (omega arith)
units_two (u ∷ v ∷ []) e = refl
units_two (u ∷ v ∷ w ∷ us) e = absurd (omega arith)

wide_of : (c : ℕ) (us : List ℕ) → us ≡ encode_utf16 c → wide (c ∷ []) ≡ flat_map unit_bytes us
unfolding wide
wide_of c us e = ap (flat_map unit_bytes) (append-nil (encode_utf16 c) ∙ sym e)

pub wide_one : (c : ℕ) (us : List ℕ) → us ≡ encode_utf16 c → length us ≡ 1 → unit_bytes (get_or us 0 0) ≡ wide (c ∷ [])
wide_one c us e one = sym (wide_of c us e ∙ ap (flat_map unit_bytes) (units_one us one))

pub wide_two : (c : ℕ) (us : List ℕ) → us ≡ encode_utf16 c → length us ≡ 2 → unit_bytes (get_or us 0 0) ++ unit_bytes (get_or us 1 0) ≡ wide (c ∷ [])
wide_two c us e two = sym (wide_of c us e ∙ ap (flat_map unit_bytes) (units_two us two))

pub wide-append : (xs ys : List ℕ) → wide (xs ++ ys) ≡ wide xs ++ wide ys
unfolding wide
wide-append xs ys = ap (flat_map unit_bytes) (flat_map-append encode_utf16 xs ys) ∙ flat_map-append unit_bytes (flat_map encode_utf16 xs) (flat_map encode_utf16 ys)

-- the place after one more character, and the room for it
pub place_more : (ys : List ℕ) (c : ℕ) → length (wide ys) + 2 * length (encode_utf16 c) ≡ length (wide (ys ++ c ∷ []))
place_more ys c =
    omega (arith, length_wide ys, length_wide (ys ++ c ∷ []), unit_count-append ys (c ∷ []), length-append (encode_utf16 c) [])

pub room : (cs ys : List ℕ) (c : ℕ) → ys ++ c ∷ [] ≡ take (length (ys ++ c ∷ [])) cs → length (wide ys) + 2 * length (encode_utf16 c) ≤ length (wide cs)
room cs ys c front =
    omega (
      arith,
      place_more ys c,
      length_wide (ys ++ c ∷ []),
      length_wide cs,
      ap unit_count front,
      unit_count-append (take (length (ys ++ c ∷ [])) cs) (drop (length (ys ++ c ∷ [])) cs),
      ap unit_count (take-append-drop (length (ys ++ c ∷ [])) cs),
    )
