-- What the bytes of a name give, and what it says of them.
use Rattle.std.proofs.Common.{◌≡◌, ◌≢◌, ℕ, ◌*◌, ◌%◌, ◌<◌, ◌⊎◌, Bool, true, false, List, [], ◌∷◌, length, Ok, Err, nat_eq, refl, sym, ap, subst, ◌∙◌, inl, inr, ⊎_elim, arith, eqb-true, eq-eqb, ne_eqb}
use Rattle.std.specs.List.{flat_map}
use Rattle.std.specs.Char.Escape.{encode_utf16}
use Rattle.std.specs.Char.Utf16.{has_unpaired_surrogate, utf16_lossy_chars}
use Rattle.std.specs.Str.{all_scalars}
use Rattle.std.proofs.lemmas.Bool.Decides.{nat_tests}
use Rattle.std.proofs.lemmas.List.Elements.{All-tail}
use Rattle.udf_text.specs.declared.fault.TextFault.TheVariants.{BadLength, BadCompression, OddLength, LoneSurrogate}
use Rattle.udf_text.specs.Compressed.{wide, is_narrow, encoding, Spells, IsBytes, HasOtherCompression, HasHalfUnit, HasLoneSurrogate, unit_bytes, units, wide_decoding, decoding}
use Rattle.udf_text.proofs.Utf16.{paired, read_back, spelt}
use Rattle.udf_text.proofs.UnitBytes.{read_units, whole_units, small_units, length_bytes}

-- an equation of a test, and the test
abbrev pub Tested : Bool → Type 0
Tested b = (b ≡ true) ⊎ (b ≡ false)

pub tested : (b : Bool) → Tested b
tested true = inl refl
tested false = inr refl

-- the units of characters are read from their bytes
pub units_wide : (cs : List ℕ) → units (wide cs) ≡ flat_map encode_utf16 cs
unfolding wide
units_wide cs = read_units (flat_map encode_utf16 cs)

pub length_wide : (cs : List ℕ) → length (wide cs) ≡ 2 * length (flat_map encode_utf16 cs)
unfolding wide
length_wide cs = length_bytes (flat_map encode_utf16 cs)

pub wide_odd : (bytes : List ℕ) → length bytes % 2 ≡ 1 → wide_decoding bytes ≡ Err OddLength
unfolding wide_decoding
wide_odd bytes odd = rw (eq-eqb (length bytes % 2) 1 odd)

pub wide_lone : (bytes : List ℕ) → length bytes % 2 ≡ 0 → has_unpaired_surrogate (units bytes) ≡ true → wide_decoding bytes ≡ Err LoneSurrogate
unfolding wide_decoding
wide_lone bytes even lone = rw (ne_eqb (length bytes % 2) 1 (λ e. omega arith), lone)

pub wide_read : (bytes : List ℕ) → length bytes % 2 ≡ 0 → has_unpaired_surrogate (units bytes) ≡ false → wide_decoding bytes ≡ Ok (utf16_lossy_chars (units bytes))
unfolding wide_decoding
wide_read bytes even none = rw (ne_eqb (length bytes % 2) 1 (λ e. omega arith), none)

pub decoding_narrow : (cs : List ℕ) → decoding (8 ∷ cs) ≡ Ok cs
unfolding decoding
decoding_narrow cs = refl

pub decoding_wide : (bytes : List ℕ) → decoding (16 ∷ bytes) ≡ wide_decoding bytes
unfolding decoding
decoding_wide bytes = refl

pub decoding_none : decoding [] ≡ Ok []
unfolding decoding
decoding_none = refl

pub decoding_other : (id : ℕ) (rest : List ℕ) → id ≢ 8 → id ≢ 16 → decoding (id ∷ rest) ≡ Err BadCompression
unfolding decoding
decoding_other id rest a b = rw (ne_eqb id 8 a, ne_eqb id 16 b)

pub decoding_written : (cs : List ℕ) → all_scalars cs ≡ true → decoding (16 ∷ wide cs) ≡ Ok cs
decoding_written cs s =
    let us = units_wide cs in
    decoding_wide (wide cs)
    ∙ wide_read (wide cs) (omega (arith, length_wide cs)) (ap has_unpaired_surrogate us ∙ paired cs s)
    ∙ ap Ok (ap utf16_lossy_chars us ∙ read_back cs s)

-- no characters have these units
pub never_written : (rest : List ℕ) → has_unpaired_surrogate (units rest) ≡ true → (cs : List ℕ) → all_scalars cs ≡ true → rest ≢ wide cs
never_written rest lone cs s e =
    let none = ap (λ l. has_unpaired_surrogate (units l)) e ∙ ap has_unpaired_surrogate (units_wide cs) ∙ paired cs s in
    cc

pub rewritten : (rest : List ℕ) → IsBytes rest → length rest % 2 ≡ 0 → has_unpaired_surrogate (units rest) ≡ false
    → (all_scalars (utf16_lossy_chars (units rest)) ≡ true) × (rest ≡ wide (utf16_lossy_chars (units rest)))
unfolding wide
rewritten rest b even none =
    let told = spelt (units rest) (small_units rest b) none in
    (told.1, sym (ap (flat_map unit_bytes) told.0 ∙ whole_units rest b even))

-- the one answer, and what it says of the bytes
abbrev pub Outcome : List ℕ → Type 0
Outcome bytes =
    ((cs : List ℕ) × (decoding bytes ≡ Ok cs) × (IsBytes bytes → Spells bytes cs))
    ⊎ (((decoding bytes ≡ Err BadCompression) × HasOtherCompression bytes)
    ⊎ (((decoding bytes ≡ Err OddLength) × HasHalfUnit bytes)
    ⊎ ((decoding bytes ≡ Err LoneSurrogate) × HasLoneSurrogate bytes)))

wide_outcome : (rest : List ℕ) → Outcome (16 ∷ rest)
wide_outcome rest = ⊎_elim
    (λ odd. let is : length rest % 2 ≡ 1 = eqb-true _ _ odd in inr (inr (inl (decoding_wide rest ∙ wide_odd rest is, (rest, refl, is)))))
    (λ not_odd.
    let even : length rest % 2 ≡ 0 = grind (arith, nat_tests) in
    ⊎_elim
    (λ lone. inr (inr (inr (decoding_wide rest ∙ wide_lone rest even lone, (rest, refl, even, never_written rest lone)))))
    (λ none. inl (
      utf16_lossy_chars (units rest),
      decoding_wide rest ∙ wide_read rest even none,
      λ b.
          let told = rewritten rest (All-tail (λ x. x < 256) 16 rest b) even none in
          inr (inr (told.0, ap (λ l. 16 ∷ l) told.1)),
    ))
    (tested (has_unpaired_surrogate (units rest))))
    (tested (nat_eq (length rest % 2) 1))

pub outcome : (bytes : List ℕ) → Outcome bytes
outcome [] = inl ([], decoding_none, λ b. inl (refl, refl))
outcome (id ∷ rest) = ⊎_elim
    (λ narrow. let is : 8 ≡ id = sym (eqb-true _ _ narrow) in
    subst (λ n. Outcome (n ∷ rest)) is (inl (rest, decoding_narrow rest, λ b. inr (inl refl))))
    (λ not_narrow. ⊎_elim
    (λ wide_id. let is : 16 ≡ id = sym (eqb-true _ _ wide_id) in subst (λ n. Outcome (n ∷ rest)) is (wide_outcome rest))
    (λ not_wide.
    let a : id ≢ 8 = λ e. grind (arith, nat_tests) in
    let b : id ≢ 16 = λ e. grind (arith, nat_tests) in
    inr (inl (decoding_other id rest a b, (id, rest, refl, a, b))))
    (tested (nat_eq id 16)))
    (tested (nat_eq id 8))

spelt_read : (bytes cs : List ℕ) → Spells bytes cs → decoding bytes ≡ Ok cs
spelt_read bytes cs (inl n) = ap decoding n.0 ∙ decoding_none ∙ ap Ok (sym n.1)
spelt_read bytes cs (inr (inl n)) = ap decoding n ∙ decoding_narrow cs
spelt_read bytes cs (inr (inr n)) = ap decoding n.1 ∙ decoding_written cs n.0

pub name_law : (bytes cs : List ℕ) → IsBytes bytes → ((decoding bytes ≡ Ok cs) → Spells bytes cs) × (Spells bytes cs → decoding bytes ≡ Ok cs)
name_law bytes cs b = (λ e. there e (outcome bytes), spelt_read bytes cs)
  where
    there : decoding bytes ≡ Ok cs → Outcome bytes → Spells bytes cs
    there e (inl (ds, is, says)) = let same : ds ≡ cs = cc in subst (Spells bytes) same (says b)
    there e (inr (inl f)) = absurd (cc (f.0))
    there e (inr (inr (inl f))) = absurd (cc (f.0))
    there e (inr (inr (inr f))) = absurd (cc (f.0))

pub other_law : (bytes : List ℕ) → ((decoding bytes ≡ Err BadCompression) → HasOtherCompression bytes) × (HasOtherCompression bytes → decoding bytes ≡ Err BadCompression)
other_law bytes = (λ e. there e (outcome bytes), λ h. ap decoding h.2 ∙ decoding_other h.0 h.1 h.3 h.4)
  where
    there : decoding bytes ≡ Err BadCompression → Outcome bytes → HasOtherCompression bytes
    there e (inl f) = absurd (cc (f.1))
    there e (inr (inl f)) = f.1
    there e (inr (inr (inl f))) = absurd (cc (f.0))
    there e (inr (inr (inr f))) = absurd (cc (f.0))

pub half_law : (bytes : List ℕ) → ((decoding bytes ≡ Err OddLength) → HasHalfUnit bytes) × (HasHalfUnit bytes → decoding bytes ≡ Err OddLength)
half_law bytes = (λ e. there e (outcome bytes), λ h. ap decoding h.1 ∙ decoding_wide h.0 ∙ wide_odd h.0 h.2)
  where
    there : decoding bytes ≡ Err OddLength → Outcome bytes → HasHalfUnit bytes
    there e (inl f) = absurd (cc (f.1))
    there e (inr (inl f)) = absurd (cc (f.0))
    there e (inr (inr (inl f))) = f.1
    there e (inr (inr (inr f))) = absurd (cc (f.0))

pub lone_law : (bytes : List ℕ) → IsBytes bytes → ((decoding bytes ≡ Err LoneSurrogate) → HasLoneSurrogate bytes) × (HasLoneSurrogate bytes → decoding bytes ≡ Err LoneSurrogate)
lone_law bytes b = (λ e. there e (outcome bytes), λ h. ap decoding h.1 ∙ decoding_wide h.0 ∙ back h (tested (has_unpaired_surrogate (units h.0))))
  where
    there : decoding bytes ≡ Err LoneSurrogate → Outcome bytes → HasLoneSurrogate bytes
    there e (inl f) = absurd (cc (f.1))
    there e (inr (inl f)) = absurd (cc (f.0))
    there e (inr (inr (inl f))) = absurd (cc (f.0))
    there e (inr (inr (inr f))) = f.1

    back : (h : HasLoneSurrogate bytes) → Tested (has_unpaired_surrogate (units h.0)) → wide_decoding h.0 ≡ Err LoneSurrogate
    back h (inl lone) = wide_lone h.0 h.2 lone
    back h (inr none) =
        let told = rewritten h.0 (All-tail (λ x. x < 256) 16 h.0 (subst IsBytes h.1 b)) h.2 none in
        absurd (h.3 (utf16_lossy_chars (units h.0)) told.0 told.1)

-- bytes spell one name
pub one_name : (bytes cs ds : List ℕ) → Spells bytes cs → Spells bytes ds → cs ≡ ds
one_name bytes cs ds a b = let e = sym (spelt_read bytes cs a) ∙ spelt_read bytes ds b in cc

-- a name is never refused for the length that a field tells
pub no_length : (bytes : List ℕ) → decoding bytes ≢ Err BadLength
no_length bytes e = by (outcome bytes)
  where
    by : Outcome bytes → ⊥
    by (inl f) = cc (f.1)
    by (inr (inl f)) = cc (f.0)
    by (inr (inr (inl f))) = cc (f.0)
    by (inr (inr (inr f))) = cc (f.0)

-- what is encoded is decoded
pub encoding_read : (cs : List ℕ) → all_scalars cs ≡ true → decoding (encoding cs) ≡ Ok cs
unfolding encoding
encoding_read [] s = decoding_none
encoding_read (c ∷ cs) s = by (is_narrow (c ∷ cs)) refl
  where
    by : (t : Bool) → is_narrow (c ∷ cs) ≡ t → decoding (encoding (c ∷ cs)) ≡ Ok (c ∷ cs)
    by true e = rw e (decoding_narrow (c ∷ cs))
    by false e = rw e (decoding_written (c ∷ cs) s)
