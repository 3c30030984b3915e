-- Characters and their units in UTF-16, both ways.
use Rattle.std.proofs.Common.{◌≡◌, ℕ, ◌<◌, ◌≤◌, suc, ◌⊎◌, Bool, true, false, not, List, [], ◌∷◌, ◌++◌, map, get_or, Option, Some, All, is_some, unwrap_or, refl, sym, ap, ap₂, ◌∙◌, inl, inr, ⊎_elim, arith}
use Rattle.std.specs.List.{flat_map, list_any}
use Rattle.std.specs.Char.Escape.{encode_utf16}
use Rattle.std.specs.Char.Utf16.{utf16_chars, surrogate_pair_char, has_unpaired_surrogate, utf16_lossy_chars}
use Rattle.std.proofs.str.Utf16.{IsPair, one_unit, two_units, pair_units, lone_unit_char_low, lone_unit_char_high, lone_unit_char_surrogate, utf16_chars-nil, utf16_chars_lone, utf16_chars_pair}
use Rattle.std.proofs.Math.Utf8.{scalar, scalars, scalar_cases, low_scalar}
use Rattle.std.proofs.lemmas.Bool.{cases_lt, and_parts, and_from}
use Rattle.std.proofs.lemmas.Bool.Decides.{nat_tests}

-- the units of a character are read as that character
read_one : (c : ℕ) (rest : List ℕ) → scalar c ≡ true → utf16_chars (encode_utf16 c ++ rest) ≡ Some c ∷ utf16_chars rest
read_one c rest s = ⊎_elim
    (λ (low : c < 0xD800). ap (λ l. utf16_chars (l ++ rest)) (one_unit c (omega arith))
    ∙ utf16_chars_lone c rest (λ p. omega (arith, p.0)) ∙ ap (λ o. o ∷ utf16_chars rest) (lone_unit_char_low c low))
    (λ (high : (0xE000 ≤ c) × (c < 0x11_0000)). ⊎_elim
    (λ (below : c < 0x1_0000). ap (λ l. utf16_chars (l ++ rest)) (one_unit c below)
    ∙ utf16_chars_lone c rest (λ p. omega (arith, p.1)) ∙ ap (λ o. o ∷ utf16_chars rest) (lone_unit_char_high c high.0))
    (λ (above : 0x1_0000 ≤ c). ap (λ l. utf16_chars (l ++ rest)) (two_units c above)
    ∙ utf16_chars_pair _ _ rest (omega arith, omega arith, omega arith, omega arith) ∙ ap (λ x. Some x ∷ utf16_chars rest) (omega arith))
    (cases_lt c 0x1_0000))
    (scalar_cases c s)

pub read_all : (cs : List ℕ) → scalars cs ≡ true → utf16_chars (flat_map encode_utf16 cs) ≡ map Some cs
read_all [] s = utf16_chars-nil
read_all (c ∷ cs) s =
    let parts = and_parts (scalar c) (scalars cs) s in
    read_one c (flat_map encode_utf16 cs) parts.0 ∙ ap (λ l. Some c ∷ l) (read_all cs parts.1)

none_lone : (cs : List ℕ) → list_any (λ (o : Option ℕ). not (is_some o)) (map Some cs) ≡ false
none_lone [] = refl
none_lone (c ∷ cs) = none_lone cs

all_read : (cs : List ℕ) → map (λ (o : Option ℕ). unwrap_or o 0xFFFD) (map Some cs) ≡ cs
all_read [] = refl
all_read (c ∷ cs) = ap (λ l. c ∷ l) (all_read cs)

-- characters in UTF-16 have no lone surrogate, and are read back
pub paired : (cs : List ℕ) → scalars cs ≡ true → has_unpaired_surrogate (flat_map encode_utf16 cs) ≡ false
paired cs s = ap (list_any (λ (o : Option ℕ). not (is_some o))) (read_all cs s) ∙ none_lone cs

pub read_back : (cs : List ℕ) → scalars cs ≡ true → utf16_lossy_chars (flat_map encode_utf16 cs) ≡ cs
read_back cs s = ap (map (λ (o : Option ℕ). unwrap_or o 0xFFFD)) (read_all cs s) ∙ all_read cs

-- units without a lone surrogate are the characters that are read
abbrev pub Spelt : List ℕ → Type 0
Spelt us = has_unpaired_surrogate us ≡ false → (flat_map encode_utf16 (utf16_lossy_chars us) ≡ us) × (scalars (utf16_lossy_chars us) ≡ true)

high_scalar : (c : ℕ) → 0xE000 ≤ c → c < 0x11_0000 → scalar c ≡ true
high_scalar c low high = grind (arith, nat_tests)

spelt_next : (us units rest : List ℕ) (c : ℕ) → utf16_chars us ≡ Some c ∷ utf16_chars rest → us ≡ units ++ rest → encode_utf16 c ≡ units → scalar c ≡ true → Spelt rest → Spelt us
spelt_next us units rest c reads e one s tail = λ h.
    let told = tail (sym (ap (list_any (λ (o : Option ℕ). not (is_some o))) reads) ∙ h) in
    let lossy : utf16_lossy_chars us ≡ c ∷ utf16_lossy_chars rest = ap (map (λ (o : Option ℕ). unwrap_or o 0xFFFD)) reads in
    (ap (flat_map encode_utf16) lossy ∙ ap₂ (λ x y. x ++ y) one told.0 ∙ sym e, ap scalars lossy ∙ and_from (scalar c) _ s told.1)

lone : (u : ℕ) (us : List ℕ) → u < 0x1_0000 → ¬ (IsPair u (get_or us 0 0)) → Spelt us → Spelt (u ∷ us)
lone u us small apart tail = ⊎_elim
    (λ (low : u < 0xD800). spelt_next (u ∷ us) (u ∷ []) us u (utf16_chars_lone u us apart ∙ ap (λ o. o ∷ utf16_chars us) (lone_unit_char_low u low)) refl (one_unit u small) (low_scalar u low) tail)
    (λ (from : 0xD800 ≤ u). ⊎_elim
    (λ (below : u < 0xE000). λ h. absurd (true_is (ap (list_any (λ (o : Option ℕ). not (is_some o))) (utf16_chars_lone u us apart ∙ ap (λ o. o ∷ utf16_chars us) (lone_unit_char_surrogate u from below))) h))
    (λ (high : 0xE000 ≤ u). spelt_next (u ∷ us) (u ∷ []) us u (utf16_chars_lone u us apart ∙ ap (λ o. o ∷ utf16_chars us) (lone_unit_char_high u high)) refl (one_unit u small) (high_scalar u high (omega arith)) tail)
    (cases_lt u 0xE000))
    (cases_lt u 0xD800)
  where
    true_is : {b : Bool} → b ≡ true → b ≡ false → ⊥
    true_is e f = cc

pair : (u v : ℕ) (us : List ℕ) → IsPair u v → Spelt us → Spelt (u ∷ v ∷ us)
pair u v us p tail = spelt_next (u ∷ v ∷ us) (u ∷ v ∷ []) us (surrogate_pair_char u v) (utf16_chars_pair u v us p) refl (ap encode_utf16 (omega arith) ∙ pair_units u v p.0 p.2 p.3) (high_scalar (surrogate_pair_char u v) (omega arith) (omega arith)) tail

either : (u v : ℕ) → IsPair u v ⊎ (¬ (IsPair u v))
either u v = ⊎_elim
    (λ (a : u < 0xD800). inr (λ p. omega (arith, p.0)))
    (λ (a : 0xD800 ≤ u). ⊎_elim
    (λ (b : u < 0xDC00). ⊎_elim
    (λ (c : v < 0xDC00). inr (λ p. omega (arith, p.2)))
    (λ (c : 0xDC00 ≤ v). ⊎_elim (λ (d : v < 0xE000). inl (a, b, c, d)) (λ (d : 0xE000 ≤ v). inr (λ p. omega (arith, p.3))) (cases_lt v 0xE000))
    (cases_lt v 0xDC00))
    (λ (b : 0xDC00 ≤ u). inr (λ p. omega (arith, p.1)))
    (cases_lt u 0xDC00))
    (cases_lt u 0xD800)

pub spelt : (us : List ℕ) → All (λ u. u < 0x1_0000) us → Spelt us
spelt [] small = λ h. (ap (λ l. flat_map encode_utf16 (map (λ (o : Option ℕ). unwrap_or o 0xFFFD) l)) utf16_chars-nil, ap (λ l. scalars (map (λ (o : Option ℕ). unwrap_or o 0xFFFD) l)) utf16_chars-nil)
spelt (u ∷ []) small = lone u [] (small 0 0 (omega arith)) (λ p. omega (arith, p.2)) (spelt [] (λ k d i. absurd (omega arith)))
spelt (u ∷ v ∷ us) small = ⊎_elim
    (λ p. pair u v us p (spelt us (λ k d i. small (suc (suc k)) d (omega arith))))
    (λ p. lone u (v ∷ us) (small 0 0 (omega arith)) p (spelt (v ∷ us) (λ k d i. small (suc k) d (omega arith))))
    (either u v)
