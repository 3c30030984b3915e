-- What the mend of the rule on the recognition sequence, number 1, writes: its first three structures (ECMA-167 2/9.2, 3/9.1, 2/9.3),
-- each whole: type 0, the identifier, version 1, and zeros to its end.
use Rattle.std.specs.Prelude.{ℕ, zero, suc, ◌+◌, ◌-◌, ◌==◌, if◌then◌else◌, List, [], ◌∷◌, ◌++◌, map, replicate, codes}
use Rattle.std.specs.List.{range_with_len}
use Rattle.udf_rules_model.specs.Recognition.{Recognition, recognition_holds, slot_at, slot_blocks, wanted_digit}

-- the blocks of a structure: the first has its fields
abbrev pub slot_block : ℕ → List ℕ → ℕ → List ℕ
slot_block size name zero = 0 ∷ (name ++ (1 ∷ replicate (size - 7) 0))
slot_block size name (suc j) = replicate size 0

unfoldable pub slot_edits : Recognition → ℕ → List ℕ → List (ℕ × List ℕ)
slot_edits r i name = map (λ j. (slot_at r.size i + j, slot_block r.size name j)) (range_with_len 0 (slot_blocks r.size))

abbrev pub volume_name : ℕ → List ℕ
volume_name digit = if digit == 2 then codes "NSR02" else codes "NSR03"

-- where the rule is broken, a beginning, the volume structure descriptor that the partition descriptor wants, and an end
unfoldable pub recognition_edits : Recognition → List ℕ → List (ℕ × List ℕ)
recognition_edits r partition =
    if recognition_holds r then []
    else slot_edits r 0 (codes "BEA01") ++ (slot_edits r 1 (volume_name (wanted_digit partition)) ++ slot_edits r 2 (codes "TEA01"))

-- the same image with another disk
abbrev pub on_disk : Recognition → (ℕ → List ℕ) → Recognition
on_disk r disk = record { size = r.size; blocks = r.blocks; disk = disk; layout = r.layout }
