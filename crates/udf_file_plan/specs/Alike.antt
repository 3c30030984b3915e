-- Edits that give the same blocks on a disk.
use Rattle.std.specs.Prelude.{◌≡◌, ℕ, List}
use Rattle.udf_volume_model.specs.Edits.{look}

-- two lists of edits give the same block at each sector of a disk; so one that leaves a block as it is may be missing in one of them
abbrev pub LookAlikeOn : (ℕ → List ℕ) → List (ℕ × List ℕ) → List (ℕ × List ℕ) → Type 0
LookAlikeOn disk one other = (n : ℕ) → look n one (disk n) ≡ look n other (disk n)
