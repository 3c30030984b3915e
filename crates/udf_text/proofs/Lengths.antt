-- How long an encoded name is, from its units and its widest character.
use Rattle.std.proofs.Common.{◌≡◌, ◌≢◌, ℕ, ◌+◌, ◌*◌, ◌<◌, ◌≤◌, ◌⊎◌, Bool, true, false, not, ◌&&◌, ◌||◌, List, [], ◌∷◌, ◌++◌, length, nat_le, nat_lt, refl, sym, ap, ap₂, ◌∙◌, inl, inr, ⊎_elim, arith, leb-true}
use Rattle.std.specs.List.{flat_map, list_all}
use Rattle.std.specs.Char.Escape.{encode_utf16}
use Rattle.std.specs.Str.{encode_utf8_all}
use Rattle.std.specs.Char.{encode_utf8, len_utf8}
use Rattle.std.proofs.str.Utf16.{one_unit, two_units}
use Rattle.std.proofs.lemmas.Bool.{cases_lt, and_parts, both_ways, not-true, not-false}
use Rattle.std.proofs.lemmas.Bool.Decides.{nat_tests}
use Rattle.std.proofs.lemmas.List.{length-append}
use Rattle.std.proofs.lemmas.List.Concat.{flat_map-append}
use Rattle.std.proofs.lemmas.List.Folds.{list_all-append}
use Rattle.std.proofs.lemmas.Str.{length-encode, len_utf8_bounds}
use Rattle.udf_text.specs.Compressed.{wide, is_narrow, encoding}
use Rattle.udf_text.specs.Size.{size_of}
use Rattle.udf_text.specs.declared.size.Size.{Size}
use Rattle.udf_text.proofs.Spelling.{Tested, tested, length_wide}

-- how many units the characters are
abbrev pub unit_count : List ℕ → ℕ
unit_count cs = length (flat_map encode_utf16 cs)

unit_count_one : (c : ℕ) → (1 ≤ length (encode_utf16 c)) × (length (encode_utf16 c) ≤ len_utf8 c)
unit_count_one c = ⊎_elim
    (λ (low : c < 0x1_0000). let e = ap length (one_unit c low) in (omega arith, omega (arith, (len_utf8_bounds c).0)))
    (λ (high : 0x1_0000 ≤ c). let e = ap length (two_units c high) in (omega arith, wide_ones c high e))
    (cases_lt c 0x1_0000)
  where
    wide_ones : (c : ℕ) → 0x1_0000 ≤ c → length (encode_utf16 c) ≡ 2 → length (encode_utf16 c) ≤ len_utf8 c
    wide_ones c high e = grind (arith, nat_tests)

pub unit_count-append : (xs ys : List ℕ) → unit_count (xs ++ ys) ≡ unit_count xs + unit_count ys
unit_count-append xs ys = ap length (flat_map-append encode_utf16 xs ys) ∙ length-append _ _

-- no more units than bytes in UTF-8
pub unit_count_le : (cs : List ℕ) → unit_count cs ≤ length (encode_utf8_all cs)
unit_count_le [] = omega arith
unit_count_le (c ∷ cs) =
    omega (arith, unit_count_le cs, length-append (encode_utf16 c) (flat_map encode_utf16 cs), length-append (encode_utf8 c) (encode_utf8_all cs), length-encode c, (unit_count_one c).1)

-- 8-bit characters are one unit each
pub unit_count_narrow : (cs : List ℕ) → is_narrow cs ≡ true → unit_count cs ≡ length cs
unfolding is_narrow
unit_count_narrow [] n = refl
unit_count_narrow (c ∷ cs) n =
    let parts = and_parts (nat_le c 255) _ n in
    let small : c ≤ 255 = leb-true c 255 parts.0 in
    omega (arith, unit_count_narrow cs parts.1, length-append (encode_utf16 c) (flat_map encode_utf16 cs), ap length (one_unit c (omega arith)))

unit_count_pos : (c : ℕ) (cs : List ℕ) → 1 ≤ unit_count (c ∷ cs)
unit_count_pos c cs = omega (arith, (unit_count_one c).0, length-append (encode_utf16 c) (flat_map encode_utf16 cs))

-- the three lengths
pub length_none : (cs : List ℕ) → unit_count cs ≡ 0 → length (encoding cs) ≡ 0
unfolding encoding
length_none [] e = refl
length_none (c ∷ cs) e = absurd (omega (arith, unit_count_pos c cs))

pub length_wider : (cs : List ℕ) → unit_count cs ≢ 0 → is_narrow cs ≡ false → length (encoding cs) ≡ 1 + 2 * unit_count cs
unfolding encoding
length_wider [] some w = absurd (some refl)
length_wider (c ∷ cs) some w = rw w (omega (arith, length_wide (c ∷ cs)))

pub length_narrow : (cs : List ℕ) → unit_count cs ≢ 0 → is_narrow cs ≡ true → length (encoding cs) ≡ 1 + unit_count cs
unfolding encoding
length_narrow [] some n = absurd (some refl)
length_narrow (c ∷ cs) some n = rw n (omega (arith, unit_count_narrow (c ∷ cs) n))

pub narrow-append : (xs ys : List ℕ) → is_narrow (xs ++ ys) ≡ (is_narrow xs && is_narrow ys)
unfolding is_narrow
narrow-append xs ys = list_all-append (λ c. nat_le c 255) xs ys

-- a longer name is not encoded shorter
pub longer : (xs ys : List ℕ) → length (encoding xs) ≤ length (encoding (xs ++ ys))
longer xs ys = by xs (cases_lt 0 (unit_count xs)) (tested (is_narrow xs)) (tested (is_narrow (xs ++ ys)))
  where
    by : (xs : List ℕ) → (0 < unit_count xs) ⊎ (unit_count xs ≤ 0) → Tested (is_narrow xs) → Tested (is_narrow (xs ++ ys)) → length (encoding xs) ≤ length (encoding (xs ++ ys))
    by xs (inr none) s t = omega (arith, length_none xs (omega arith))
    by xs (inl some) (inl n) (inl m) =
        omega (arith, unit_count-append xs ys, length_narrow xs (λ e. omega arith) n, length_narrow (xs ++ ys) (λ e. omega (arith, unit_count-append xs ys)) m)
    by xs (inl some) (inl n) (inr w) =
        omega (arith, unit_count-append xs ys, length_narrow xs (λ e. omega arith) n, length_wider (xs ++ ys) (λ e. omega (arith, unit_count-append xs ys)) w)
    by xs (inl some) (inr w) (inr v) =
        omega (arith, unit_count-append xs ys, length_wider xs (λ e. omega arith) w, length_wider (xs ++ ys) (λ e. omega (arith, unit_count-append xs ys)) v)
    by xs (inl some) (inr w) (inl m) =
        let parts = and_parts (is_narrow xs) (is_narrow ys) (sym (narrow-append xs ys) ∙ m) in
        absurd (both_ways (is_narrow xs) w parts.0)

pub above : (c : ℕ) → nat_lt 255 c ≡ not (nat_le c 255)
above c = grind (arith, nat_tests)

-- the sizes of no characters and of one more
pub size_none : record { units = 0; wide = false } ≡ size_of []
unfolding size_of is_narrow
size_none = refl

both_widths : (x y : Bool) → (not x || not y) ≡ not (x && (y && true))
both_widths true true = refl
both_widths true false = refl
both_widths false y = refl

pub length_units : (c n : ℕ) → (c < 0x1_0000 → n ≡ 1) → (0x1_0000 ≤ c → n ≡ 2) → n ≡ length (encode_utf16 c)
length_units c n one two = ⊎_elim
    (λ (low : c < 0x1_0000). one low ∙ sym (ap length (one_unit c low)))
    (λ (high : 0x1_0000 ≤ c). two high ∙ sym (ap length (two_units c high)))
    (cases_lt c 0x1_0000)

pub size_more : (cs : List ℕ) (c : ℕ) (s r : Size) → s ≡ size_of cs → r.units ≡ s.units + length (encode_utf16 c) → r.wide ≡ (s.wide || not (nat_le c 255)) → r ≡ size_of (cs ++ c ∷ [])
unfolding size_of is_narrow
size_more cs c s r e u w =
    let units : r.units ≡ unit_count (cs ++ c ∷ []) = omega (arith, ap (λ (x : Size). x.units) e, unit_count-append cs (c ∷ []), length-append (encode_utf16 c) []) in
    let widths : r.wide ≡ not (list_all (λ d. nat_le d 255) (cs ++ c ∷ [])) =
    w ∙ ap (λ (x : Size). x.wide || not (nat_le c 255)) e ∙ both_widths (list_all (λ d. nat_le d 255) cs) (nat_le c 255) ∙ ap not (sym (list_all-append (λ d. nat_le d 255) cs (c ∷ []))) in
    ap₂ (λ a b. record { units = a; wide = b }) units widths

-- the length of the encoded name, from its size
pub bytes_none : (cs : List ℕ) (s : Size) → s ≡ size_of cs → s.units ≡ 0 → 0 ≡ length (encoding cs)
unfolding size_of
bytes_none cs s e z = sym (length_none cs (sym (ap (λ (x : Size). x.units) e) ∙ z))

broad_of : (cs : List ℕ) (s : Size) → s ≡ size_of cs → s.wide ≡ true → is_narrow cs ≡ false
unfolding size_of
broad_of cs s e w = not-true (is_narrow cs) (sym (ap (λ (x : Size). x.wide) e) ∙ w)

pub bytes_wide : (cs : List ℕ) (s : Size) → s ≡ size_of cs → s.units ≢ 0 → s.wide ≡ true → 1 + 2 * s.units ≡ length (encoding cs)
unfolding size_of
bytes_wide cs s e some w =
    let units = ap (λ (x : Size). x.units) e in
    omega (arith, length_wider cs (λ z. some (units ∙ z)) (broad_of cs s e w))

pub narrow_of : (cs : List ℕ) (s : Size) → s ≡ size_of cs → s.wide ≡ false → is_narrow cs ≡ true
unfolding size_of
narrow_of cs s e w = not-false (is_narrow cs) (sym (ap (λ (x : Size). x.wide) e) ∙ w)

pub bytes_narrow : (cs : List ℕ) (s : Size) → s ≡ size_of cs → s.units ≢ 0 → s.wide ≡ false → 1 + s.units ≡ length (encoding cs)
unfolding size_of
bytes_narrow cs s e some w =
    let units = ap (λ (x : Size). x.units) e in
    omega (arith, length_narrow cs (λ z. some (units ∙ z)) (narrow_of cs s e w))

-- the form of the encoded name, from its size
pub none_form : (cs : List ℕ) (s : Size) (bytes : List ℕ) → s ≡ size_of cs → s.units ≡ 0 → length bytes ≡ length (encoding cs) → bytes ≡ encoding cs
none_form cs s bytes e z n = empty bytes (encoding cs) (omega (arith, bytes_none cs s e z)) (omega (arith, bytes_none cs s e z))
  where
    empty : (xs ys : List ℕ) → length xs ≡ 0 → length ys ≡ 0 → xs ≡ ys
    empty [] [] a b = refl
    empty (x ∷ xs) ys a b = absurd (omega arith)
    empty [] (y ∷ ys) a b = absurd (omega arith)

pub wide_form : (cs : List ℕ) (s : Size) → s ≡ size_of cs → s.units ≢ 0 → s.wide ≡ true → encoding cs ≡ 16 ∷ wide cs
unfolding encoding size_of
wide_form [] s e some w = absurd (some (ap (λ (x : Size). x.units) e))
wide_form (c ∷ cs) s e some w = let broad : is_narrow (c ∷ cs) ≡ false = broad_of (c ∷ cs) s e w in rw broad

pub narrow_form : (cs : List ℕ) (s : Size) → s ≡ size_of cs → s.units ≢ 0 → s.wide ≡ false → encoding cs ≡ 8 ∷ cs
unfolding encoding size_of
narrow_form [] s e some w = absurd (some (ap (λ (x : Size). x.units) e))
narrow_form (c ∷ cs) s e some w = let narrow : is_narrow (c ∷ cs) ≡ true = narrow_of (c ∷ cs) s e w in rw narrow
