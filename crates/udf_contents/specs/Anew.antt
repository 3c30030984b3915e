-- What the content of a directory is made of anew: a parent FID, and FIDs of the content that stands there.
use Rattle.std.specs.Prelude.{ℕ, ◌-◌, ◌==◌, if◌then◌else◌, List, [], ◌∷◌, ◌++◌, drop, find, replicate, slice_index, Option, Some, None}
use Rattle.udf_field.specs.declared.address.Addr.{Addr}
use Rattle.udf_file_model.specs.Anew.{named_anew}
use Rattle.udf_file_model.specs.Fid.{fid_at, is_parent}
use Rattle.udf_file_model.specs.Scan.{fids, fids_of}
use Rattle.udf_tree_model.specs.Content.{fresh_parent}
use Rattle.udf_kept.specs.declared.fitted.Fitted.{Fitted}

-- the first parent FID of a content
abbrev pub first_parent : ℕ → List ℕ → Option (List ℕ)
first_parent size content = find is_parent (fids_of (fids size content))

-- a fresh parent FID before its numbers are put
abbrev pub parent_form : List ℕ → List ℕ
parent_form entry =
    (1 ∷ 1 ∷ slice_index entry 2 ∷ slice_index entry 3 ∷ 0 ∷ 0 ∷ slice_index entry 6 ∷ slice_index entry 7 ∷ replicate 8 0)
    ++ (1 ∷ 0 ∷ 10 ∷ 0 ∷ replicate 20 0)

-- the parent FID that names the address above: one that was there, or a fresh one
abbrev pub parent_from : ℕ → List ℕ → ℕ → Addr → Option (List ℕ) → List ℕ
parent_from size entry location above None = fresh_parent size entry location above
parent_from size entry location above (Some fid) = named_anew above fid

abbrev pub bytes_or : Option (List ℕ) → List ℕ
bytes_or None = []
bytes_or (Some fid) = fid

-- the bytes of the FID that has a place in a content; a pointer has none
unfoldable pub bytes_at : ℕ → List ℕ → ℕ → List ℕ
bytes_at size content place = if place == 0 then [] else bytes_or (fid_at size (drop (place - 1) content))

-- those of fitted links, one after another
unfoldable pub bytes_over : ℕ → List ℕ → List Fitted → List ℕ
bytes_over size content [] = []
bytes_over size content (x ∷ xs) = bytes_at size content x.place ++ bytes_over size content xs
