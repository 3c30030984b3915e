-- The block sizes of the profile, in bytes.
use Rattle.std.specs.Prelude.{ℕ, Bool, ◌==◌, ◌||◌, List, [], ◌∷◌}

-- ascending
unfoldable pub sizes : List ℕ
sizes = 512 ∷ 1024 ∷ 2048 ∷ 4096 ∷ []

-- one of the four
unfoldable pub is_size : ℕ → Bool
is_size size = (size == 512) || ((size == 1024) || ((size == 2048) || (size == 4096)))
