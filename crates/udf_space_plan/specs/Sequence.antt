-- The structures of a recognition sequence (ECMA-167 2/9.2, 3/9.1, 2/9.3), by the bytes of a block.
use Rattle.std.specs.Prelude.{ℕ, ◌+◌, List, ◌++◌, map, codes}
use Rattle.std.specs.List.{range_with_len}
use Rattle.udf_rules_model.specs.Recognition.{slot_at, slot_blocks}
use Rattle.udf_space_mends.specs.SlotMend.{slot_block, volume_name}

-- the first blocks of a structure, from a sector on
unfoldable pub slot_front : ℕ → ℕ → List ℕ → ℕ → List (ℕ × List ℕ)
slot_front size first name count = map (λ j. (first + j, slot_block size name j)) (range_with_len 0 count)

abbrev pub slot_put : ℕ → ℕ → List ℕ → List (ℕ × List ℕ)
slot_put size i name = slot_front size (slot_at size i) name (slot_blocks size)

-- a beginning, a volume of this edition, and an end
unfoldable pub sequence_put : ℕ → ℕ → List (ℕ × List ℕ)
sequence_put size digit =
    slot_put size 0 (codes "BEA01") ++ (slot_put size 1 (volume_name digit) ++ slot_put size 2 (codes "TEA01"))
