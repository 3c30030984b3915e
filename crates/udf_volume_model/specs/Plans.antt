-- What a plan has for each sector, and when it is exactly the difference of two images.
use Rattle.std.specs.Prelude.{◌≡◌, ℕ, ◌+◌, ◌<◌, ◌≤◌, ◌==◌, Option, Some, None, if◌then◌else◌, List, [], ◌∷◌, length}
use Rattle.std.specs.Str.{bytes_eq}
use Rattle.udf_model.specs.Image.{block_of, blocks_in}

-- the block that a plan has for a sector
unfoldable pub planned : ℕ → List (ℕ × List ℕ) → Option (List ℕ)
planned n [] = None
planned n (edit ∷ edits) = if n == edit.0 then Some edit.1 else planned n edits

-- the sectors ascend, from a number on
abbrev pub ClimbsFrom : ℕ → List (ℕ × List ℕ) → Type 0
ClimbsFrom from [] = Unit {0}
ClimbsFrom from (edit ∷ edits) = (from ≤ edit.0) × ClimbsFrom (edit.0 + 1) edits

-- exactly the blocks in which two images differ, ascending, as they are afterwards
pub record IsPlan (size : ℕ) (image after : List ℕ) (plan : List (ℕ × List ℕ)) : Type 0 where
  pub ascends : ClimbsFrom 0 plan
  pub differing : (n : ℕ) → n < blocks_in size image
      → planned n plan ≡ (if bytes_eq (block_of size image n) (block_of size after n) then None else Some (block_of size after n))
  pub further : (n : ℕ) → blocks_in size image ≤ n → planned n plan ≡ None

-- an image of the same length that differs from one at most in whole blocks
pub record IsRewrite (size : ℕ) (image after : List ℕ) : Type 0 where
  pub same_length : length after ≡ length image
  pub same_past : (n : ℕ) → blocks_in size image ≤ n → block_of size after n ≡ block_of size image n
