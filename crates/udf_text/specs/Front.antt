-- The longest beginning of a name whose encoding fits.
use Rattle.std.specs.Prelude.{◌≡◌, ℕ, ◌≤◌, List, ◌++◌, length}
use Rattle.udf_text.specs.Compressed.{encoding}

-- front begins the characters, its encoding has at most so many bytes, and no longer beginning's has
pub record IsLongestFront (characters : List ℕ) (bytes : ℕ) (front : List ℕ) : Type 0 where
  pub begins : (rest : List ℕ) × (characters ≡ front ++ rest)
  pub fits : length (encoding front) ≤ bytes
  pub longest : (other rest : List ℕ) → characters ≡ other ++ rest → length (encoding other) ≤ bytes → length other ≤ length front
