-- OSTA Compressed Unicode (OSTA UDF 2.1.1) and the dstring (2.1.3).
use Rattle.std.specs.Prelude.{◌≡◌, ◌≢◌, ℕ, ◌+◌, ◌-◌, ◌*◌, ◌/◌, ◌%◌, ◌<◌, Bool, true, ◌⊎◌, List, [], ◌∷◌, ◌++◌, length, take, replicate, nat_lt, nat_le, ◌==◌, if◌then◌else◌, slice_index, All}
use Rattle.std.specs.Prelude.{Result, Ok, Err}
use Rattle.std.specs.List.{flat_map, list_all}
use Rattle.std.specs.Str.{all_scalars}
use Rattle.std.specs.Char.Escape.{encode_utf16}
use Rattle.std.specs.Char.Utf16.{has_unpaired_surrogate, utf16_lossy_chars}
use Rattle.udf_text.specs.declared.fault.TextFault.{TextFault}
use Rattle.udf_text.specs.declared.fault.TextFault.TheVariants.{BadLength, BadCompression, OddLength, LoneSurrogate}

-- the bytes of a 16-bit unit, the higher first
abbrev pub unit_bytes : ℕ → List ℕ
unit_bytes unit = unit / 256 ∷ unit % 256 ∷ []

-- characters in UTF-16, as bytes
unfoldable pub wide : List ℕ → List ℕ
wide characters = flat_map unit_bytes (flat_map encode_utf16 characters)

-- every character is at most U+00FF, and so has one byte
unfoldable pub is_narrow : List ℕ → Bool
is_narrow characters = list_all (λ c. nat_le c 255) characters

-- 2.1.1, written: nothing for no characters, else the compression ID and the characters, in the smaller width that holds them all
unfoldable pub encoding : List ℕ → List ℕ
encoding [] = []
encoding (c ∷ cs) = if is_narrow (c ∷ cs) then 8 ∷ c ∷ cs else 16 ∷ wide (c ∷ cs)

-- 2.1.1, read: the bytes are a name of these characters, in either width
abbrev pub Spells : List ℕ → List ℕ → Type 0
Spells bytes characters =
    ((bytes ≡ []) × (characters ≡ []))
    ⊎ ((bytes ≡ 8 ∷ characters) ⊎ ((all_scalars characters ≡ true) × (bytes ≡ 16 ∷ wide characters)))

-- each number is a byte
abbrev pub IsBytes : List ℕ → Type 0
IsBytes bytes = All (λ b. b < 256) bytes

-- the bytes begin with another compression ID than 8 and 16
abbrev pub HasOtherCompression : List ℕ → Type 0
HasOtherCompression bytes = (id : ℕ) × (rest : List ℕ) × (bytes ≡ id ∷ rest) × (id ≢ 8) × (id ≢ 16)

-- a 16-bit name with half a unit at its end
abbrev pub HasHalfUnit : List ℕ → Type 0
HasHalfUnit bytes = (rest : List ℕ) × (bytes ≡ 16 ∷ rest) × (length rest % 2 ≡ 1)

-- a 16-bit name of whole units that are no characters in UTF-16
abbrev pub HasLoneSurrogate : List ℕ → Type 0
HasLoneSurrogate bytes =
    (rest : List ℕ) × (bytes ≡ 16 ∷ rest) × (length rest % 2 ≡ 0)
    × ((characters : List ℕ) → all_scalars characters ≡ true → rest ≢ wide characters)

-- the units of 16 bits, two bytes each
unfoldable pub units : List ℕ → List ℕ
units (high ∷ low ∷ bytes) = (high * 256 + low) ∷ units bytes
units (high ∷ []) = []
units [] = []

-- what a 16-bit name gives, without its compression ID
unfoldable pub wide_decoding : List ℕ → Result (List ℕ) TextFault
wide_decoding bytes =
    if length bytes % 2 == 1 then Err OddLength
    else if has_unpaired_surrogate (units bytes) then Err LoneSurrogate
    else Ok (utf16_lossy_chars (units bytes))

-- what the bytes of a name give: its characters or the first fault
unfoldable pub decoding : List ℕ → Result (List ℕ) TextFault
decoding [] = Ok []
decoding (id ∷ bytes) =
    if id == 8 then Ok bytes
    else if id == 16 then wide_decoding bytes
    else Err BadCompression

-- 2.1.3: the encoded name, zeros, and in the last byte of so many the length of the encoded name
unfoldable pub dstring : ℕ → List ℕ → List ℕ
dstring size characters =
    encoding characters
    ++ (replicate (size - 1 - length (encoding characters)) 0 ++ length (encoding characters) ∷ [])

-- 2.1.3: the length that the last byte tells
abbrev pub told_length : List ℕ → ℕ
told_length field = slice_index field (length field - 1)

-- what a dstring gives
unfoldable pub dstring_decoding : List ℕ → Result (List ℕ) TextFault
dstring_decoding field =
    if nat_lt (told_length field) (length field) then decoding (take (told_length field) field) else Err BadLength
