-- Wanted blocks are edits of an image: each is a sector and its block, and of two at a sector the first counts.
use Rattle.std.specs.Prelude.{◌≡◌, ℕ, not, Option, Some, None, if◌then◌else◌, List, filter}
use Rattle.std.specs.Str.{bytes_eq}
use Rattle.udf_volume_model.specs.Edits.{look}

-- two lists of edits give the same block at each sector, whatever stood there
abbrev pub LookAlike : List (ℕ × List ℕ) → List (ℕ × List ℕ) → Type 0
LookAlike one other = (n : ℕ) (block : List ℕ) → look n one block ≡ look n other block

-- the edits whose blocks differ from a disk's
unfoldable pub differing : (ℕ → List ℕ) → List (ℕ × List ℕ) → List (ℕ × List ℕ)
differing disk wanted = filter (λ edit. not (bytes_eq (disk edit.0) edit.1)) wanted

-- what a plan has for a sector, by its block before and after
abbrev pub changed : List ℕ → List ℕ → Option (List ℕ)
changed before after = if bytes_eq before after then None else Some after
