-- The FIDs of a directory's content (ECMA-167 4/8.6 and 4/14.4). FIDs are sought at offsets that are multiples of four; a whole
-- one is taken and passed, and where none begins the next offset is four bytes later.
use Rattle.std.specs.Prelude.{◌≡◌, ℕ, zero, suc, ◌+◌, ◌-◌, ◌%◌, ◌<◌, ◌≤◌, ◌⊎◌, Option, Some, None, List, [], ◌∷◌, length, drop, map, All, AllPairs, Any, Contains}
use Rattle.udf_file_model.specs.Fid.{Begins, fid_at}

-- an offset in a content, and the FID there
abbrev pub Placed : Type 0
Placed = ℕ × List ℕ

-- the whole FIDs of a content: each stands whole at a multiple of four, none reaches into a later one, and each that is not
-- listed begins within a listed one
pub record IsScan (size : ℕ) (content : List ℕ) (list : List Placed) : Type 0 where
  pub whole : All (λ p. (p.0 % 4 ≡ 0) × Begins size (drop p.0 content) p.1) list
  pub apart : AllPairs (λ p q. p.0 + length p.1 ≤ q.0) list
  pub complete : (at : ℕ) (fid : List ℕ) → at % 4 ≡ 0 → Begins size (drop at content) fid
      → Contains list (at, fid) ⊎ Any (λ p. (p.0 < at) × (at < p.0 + length p.1)) list

-- what is taken at an offset, and then what comes after so many more bytes
unfoldable pub taken : ℕ → Option (List ℕ) → (ℕ → List Placed) → List Placed
taken at None after = after 3
taken at (Some fid) after = (at, fid) ∷ after (length fid - 1)

-- what is taken from an offset on, once so many bytes are passed
unfoldable pub fids_from : ℕ → ℕ → ℕ → List ℕ → List Placed
fids_from size at passed [] = []
fids_from size at zero (byte ∷ bytes) = taken at (fid_at size (byte ∷ bytes)) (λ n. fids_from size (suc at) n bytes)
fids_from size at (suc passed) (byte ∷ bytes) = fids_from size (suc at) passed bytes

-- the FIDs of a content; `scan_law` says that they are the one list that `IsScan` allows
abbrev pub fids : ℕ → List ℕ → List Placed
fids size content = fids_from size 0 0 content

abbrev pub offsets : List Placed → List ℕ
offsets list = map (λ p. p.0) list

abbrev pub fids_of : List Placed → List (List ℕ)
fids_of list = map (λ p. p.1) list
