-- The wanted blocks that a map keeps, with their sectors.
use Rattle.std.specs.Prelude.{ℕ, List, map, Vec}
use Rattle.std.specs.declared.alloc.Global.{Global}

abbrev pub kept : List (ℕ × Vec ℕ Global) → List (ℕ × List ℕ)
kept entries = map (λ entry. (entry.0, entry.1.items)) entries
