-- When two names of a directory are the same (OSTA UDF 2.1.1): their bytes are equal, or they decode to the same characters.
use Rattle.std.specs.Prelude.{◌≡◌, ℕ, ◌⊎◌, List, ◌∷◌, Result, Ok, Err}
use Rattle.std.specs.Ordering.{nat_cmp}
use Rattle.std.specs.Cmp.Lexicographic.{slice_cmp}
use Rattle.std.specs.declared.cmp.Ordering.{Ordering}
use Rattle.udf_text.specs.Compressed.{decoding}
use Rattle.udf_text.specs.declared.fault.TextFault.{TextFault}

abbrev pub DecodeAlike : List ℕ → List ℕ → Type 0
DecodeAlike a b = (characters : List ℕ) × (decoding a ≡ Ok characters) × (decoding b ≡ Ok characters)

abbrev pub IsSameName : List ℕ → List ℕ → Type 0
IsSameName a b = (a ≡ b) ⊎ DecodeAlike a b

-- what of a name tells it from others: its characters, or its bytes where they do not decode
pub data Canonical : Type 0 where
  Characters : List ℕ → Canonical
  Undecoded : List ℕ → Canonical

abbrev pub canonical_by : Result (List ℕ) TextFault → List ℕ → Canonical
canonical_by (Ok characters) bytes = Characters characters
canonical_by (Err fault) bytes = Undecoded bytes

unfoldable pub canonical : List ℕ → Canonical
canonical bytes = canonical_by (decoding bytes) bytes

-- as a list of numbers, the first of which tells characters from bytes
unfoldable pub canonical_key : Canonical → List ℕ
canonical_key (Characters characters) = 0 ∷ characters
canonical_key (Undecoded bytes) = 1 ∷ bytes

-- the order of canonical names: those that decode first, and by the first number that differs
abbrev pub canonical_cmp : Canonical → Canonical → Ordering
canonical_cmp a b = slice_cmp nat_cmp (canonical_key a) (canonical_key b)
