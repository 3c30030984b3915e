-- A plan: blocks of one size at ascending sectors.
use Rattle.std.specs.Prelude.{◌≡◌, ℕ, Bool, true, ◌==◌, nat_lt, List, length}
use Rattle.std.specs.List.{list_all}
use Rattle.udf_volume_model.specs.Plans.{ClimbsFrom}

-- the size of its blocks, and the blocks with their sectors
pub record Planned : Type 0 where
  pub size : ℕ
  pub blocks : List (ℕ × List ℕ)

-- each sector passes a test
unfoldable pub are_at : (ℕ → Bool) → List (ℕ × List ℕ) → Bool
are_at test edits = list_all (λ edit. test edit.0) edits

-- each sector is below a number
abbrev pub are_below : ℕ → List (ℕ × List ℕ) → Bool
are_below top edits = are_at (λ n. nat_lt n top) edits

-- each block has a size
unfoldable pub are_sized : ℕ → List (ℕ × List ℕ) → Bool
are_sized size edits = list_all (λ edit. length edit.1 == size) edits

-- the sectors ascend and are below 4,294,967,295, and the blocks have the size
pub record IsLawful (plan : Planned) : Type 0 where
  pub ascends : ClimbsFrom 0 plan.blocks
  pub below : are_below 4294967295 plan.blocks ≡ true
  pub sized : are_sized plan.size plan.blocks ≡ true
