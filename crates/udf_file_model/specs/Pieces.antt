-- The flat list of an entry: its descriptors, with what continues them in allocation extents (ECMA-167 4/12, 4/14.5).
use Rattle.std.specs.Prelude.{ℕ, zero, suc, ◌+◌, ◌≡◌, ◌⊎◌, ◌==◌, if◌then◌else◌, List, [], ◌∷◌}
use Rattle.udf_field.specs.declared.address.Addr.{Addr}
use Rattle.udf_file_model.specs.Descriptors.{Descriptor}

-- an allocation extent, which has no bytes, or a descriptor of blocks or of a hole
pub data Piece : Type 0 where
  Extent : Addr → Piece
  Blocks : Descriptor → Piece

-- the pieces of a body; a continuation goes on by k, and what follows it is ignored
unfoldable pub pieces : (Addr → List Piece) → List Descriptor → List Piece
pieces k [] = []
pieces k (d ∷ ds) = if d.kind == 3 then Extent d.at ∷ k d.at else Blocks d ∷ pieces k ds

-- what an allocation extent continues, unfolded at most so many times; `at` gives the descriptors of the one at an address
unfoldable pub further : (Addr → List Descriptor) → ℕ → Addr → List Piece
further at zero x = []
further at (suc n) x = pieces (further at n) (at x)

-- the flat list, with at most so many continuations
abbrev pub flat : (Addr → List Descriptor) → ℕ → List Descriptor → List Piece
flat at n ds = pieces (further at n) ds

unfoldable pub runs_of : List Piece → List Descriptor
runs_of [] = []
runs_of (Extent x ∷ rest) = runs_of rest
runs_of (Blocks d ∷ rest) = d ∷ runs_of rest

unfoldable pub extents_of : List Piece → List Addr
extents_of [] = []
extents_of (Extent x ∷ rest) = x ∷ extents_of rest
extents_of (Blocks d ∷ rest) = extents_of rest

abbrev pub blocks_each : List Descriptor → List Piece
blocks_each [] = []
blocks_each (d ∷ ds) = Blocks d ∷ blocks_each ds

-- the sum of the lengths
abbrev pub bytes_in : List Descriptor → ℕ
bytes_in [] = 0
bytes_in (d ∷ ds) = d.length + bytes_in ds

abbrev pub size_of : List Piece → ℕ
size_of ps = bytes_in (runs_of ps)

-- the allocation extent stands among the pieces
abbrev pub IsAmong : Addr → List Piece → Type 0
IsAmong x [] = ⊥
IsAmong x (Extent y ∷ rest) = (y ≡ x) ⊎ IsAmong x rest
IsAmong x (Blocks d ∷ rest) = IsAmong x rest
