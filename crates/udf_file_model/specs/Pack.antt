-- FIDs one after another.
use Rattle.std.specs.Prelude.{◌≡◌, ℕ, ◌+◌, ◌<◌, ◌≤◌, List, [], ◌∷◌, length, take, drop, map}
use Rattle.std.specs.List.{concat}
use Rattle.udf_file_model.specs.Fid.{fid_bytes}
use Rattle.udf_file_model.specs.Scan.{Placed, fids, fids_of}

abbrev pub packed : List (List ℕ) → List ℕ
packed list = concat list

-- each with the offset at which it then stands
unfoldable pub placed_from : ℕ → List (List ℕ) → List Placed
placed_from at [] = []
placed_from at (fid ∷ list) = (at, fid) ∷ placed_from (at + length fid) list

-- the content is whole: it is the FIDs that are taken from it, one after another to its end
abbrev pub IsWholeContent : ℕ → List ℕ → Type 0
IsWholeContent size content = content ≡ packed (fids_of (fids size content))

-- the FIDs that stand at these offsets of a content
abbrev pub fids_at : List ℕ → List ℕ → List (List ℕ)
fids_at content offsets = map (λ at. fid_bytes (drop at content)) offsets

-- a packed content, and how many FIDs it has after the parent FID
pub record Packing : Type 0 where
  pub bytes : List ℕ
  pub taken : ℕ

-- the parent FID and then, of a list of FIDs, the most from the front on that the limit has room for
pub record IsPacking (parent : List ℕ) (list : List (List ℕ)) (limit : ℕ) (packing : Packing) : Type 0 where
  pub within : packing.taken ≤ length list
  pub bytes : packing.bytes ≡ packed (parent ∷ take packing.taken list)
  pub fits : length packing.bytes ≤ limit
  pub most : (more : ℕ) → packing.taken < more → more ≤ length list → limit < length (packed (parent ∷ take more list))
