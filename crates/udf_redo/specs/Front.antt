-- What stops leave of a side file that is written in its first bytes alone, behind its first bytes alone, or in its first
-- byte alone. These speak of offsets and know no log.
use Rattle.std.specs.Prelude.{◌≡◌, ◌≢◌, ℕ, ◌≤◌, List, ◌∷◌, length, take}
use Rattle.udf_outside.specs.Stops.{Pair, slice_of}
use Rattle.udf_redo.specs.Log.{name, gate}

-- no more than so many bytes beside this image
abbrev pub IsShort : List ℕ → ℕ → Pair → Type 0
IsShort image offset pair = (pair.0 ≡ image) × (length pair.1 ≤ offset)

-- these first bytes beside this image
abbrev pub BeginsWith : List ℕ → List ℕ → Pair → Type 0
BeginsWith image front pair = (pair.0 ≡ image) × (take (length front) pair.1 ≡ front)

-- any first byte before this rest, beside this image
abbrev pub IsGated : List ℕ → List ℕ → Pair → Type 0
IsGated image rest pair = (pair.0 ≡ image) × ((byte : ℕ) × (pair.1 ≡ byte ∷ rest))

-- the first bytes of a closed log
pub record IsShut (side : List ℕ) : Type 0 where
  pub long : 9 ≤ length side
  pub named : slice_of side 1 8 ≡ name
  pub not_open : gate side ≢ 0x4F
