-- Lawful sparing tables: each used packet lies where nothing else of the volume does (UDF 2.50 2.2.12).
use Rattle.std.specs.Prelude.{ℕ, Bool, ◌+◌, ◌==◌, ◌&&◌, ◌||◌, nat_lt, nat_le, List}
use Rattle.std.specs.List.{list_all}
use Rattle.udf_layer.specs.Packets.{packets_apart}
use Rattle.udf_layer.specs.declared.area.Area.{Area}

-- an area of no blocks is apart from everything
unfoldable pub area_apart : ℕ → ℕ → Area → Bool
area_apart packet first area =
    (area.blocks == 0) || (nat_le (area.start + area.blocks) first || nat_le (first + packet) area.start)

-- the packet lies in an image of so many blocks, starts above block 128, and is apart from the areas
unfoldable pub is_free : ℕ → List Area → ℕ → ℕ → Bool
is_free packet areas image first = nat_le (first + packet) image && (nat_lt 128 first && list_all (area_apart packet first) areas)

-- each used packet is free, and they are pairwise apart
unfoldable pub is_lawful : ℕ → List (ℕ × ℕ) → List Area → ℕ → Bool
is_lawful packet pairs areas image = list_all (λ pair. is_free packet areas image pair.1) pairs && packets_apart packet pairs
