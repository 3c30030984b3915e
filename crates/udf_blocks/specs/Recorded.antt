-- The blocks that a plan holds, with their sectors.
use Rattle.std.specs.Prelude.{ℕ, List, map}
use Rattle.udf_blocks.specs.declared.plan.Placed.{Placed}

abbrev pub recorded : List Placed → List (ℕ × List ℕ)
recorded blocks = map (λ (placed : Placed). (placed.sector, placed.block.items)) blocks
