-- What a sink holds after a put.
use Rattle.std.specs.Prelude.{◌≡◌, ℕ, Option, Some, List, ◌++◌, take, Result, MatchResult}

-- Where the bytes are told, the text was appended, or after a failure a front of it.
abbrev pub Appends : {T E : Type 0} → Option (List ℕ) → Option (List ℕ) → List ℕ → Result T E → Type 0
Appends old new text result = (before : List ℕ) → old ≡ Some before → MatchResult result
    (λ _. new ≡ Some (before ++ text))
    (λ _. (k : ℕ) × (new ≡ Some (before ++ take k text)))
