-- What the mends of the rules on anchors and on sequences write, and all that the mends of a volume's rules do.
use Rattle.std.specs.Prelude.{ℕ, zero, suc, Option, Some, None, ◌+◌, ◌-◌, if◌then◌else◌, List, [], ◌∷◌, ◌++◌, length, map, replicate, slice_index}
use Rattle.udf_model.specs.Tag.{whole_id, is_id, relocated, retagged}
use Rattle.udf_volume_model.specs.Prevailing.{prevailing_index}
use Rattle.udf_volume_model.specs.Kept.{KeptSequence, kept, other}
use Rattle.udf_volume_model.specs.Areas.{Layout}
use Rattle.udf_volume_model.specs.Rules.{eligible, bad_of, anchors_hold, sequences_hold}
use Rattle.udf_volume_model.specs.SparingRule.{table_edits}
use Rattle.udf_volume_model.specs.AllRules.{layout_in}

-- the block of the prevailing logical volume descriptor
abbrev pub block_by : (ℕ → List ℕ) → ℕ → Option ℕ → List ℕ
block_by disk start None = []
block_by disk start (Some index) = disk (start + index)

unfoldable pub logical_block : (ℕ → List ℕ) → KeptSequence → List ℕ
logical_block disk sequence = block_by disk (kept sequence).start (prevailing_index 6 [] sequence.list)

-- a terminating descriptor (3/10.9) with the version and the serial number of a block's tag, its CRC over 496 bytes
unfoldable pub terminator : ℕ → ℕ → List ℕ → List ℕ
terminator size at like =
    retagged at 496
    (8 ∷ 0 ∷ slice_index like 2 ∷ slice_index like 3 ∷ 0 ∷ 0 ∷ slice_index like 6 ∷ slice_index like 7 ∷ replicate (size - 8) 0)

-- the block that ends the copy: the terminator that ended the list, relocated, or a new one where zeros ended it
unfoldable pub end_block : ℕ → ℕ → List ℕ → List ℕ → List ℕ
end_block size at block like = if is_id 8 (whole_id block) then relocated at block else terminator size at like

-- so many blocks from one sector on, relocated, at another sector on, and then the block that ends the copy
unfoldable pub copies : ℕ → (ℕ → List ℕ) → List ℕ → ℕ → ℕ → ℕ → List (ℕ × List ℕ)
copies size disk like from to zero = (to, end_block size to (disk from) like) ∷ []
copies size disk like from to (suc count) = (to, relocated to (disk from)) ∷ copies size disk like (from + 1) (to + 1) count

-- where the rule on sequences is broken, the kept sequence is copied to the other extent
unfoldable pub sequence_edits : ℕ → (ℕ → List ℕ) → KeptSequence → List (ℕ × List ℕ)
sequence_edits size disk sequence =
    if sequences_hold size disk sequence then []
    else copies size disk (logical_block disk sequence) (kept sequence).start (other sequence).start (length sequence.list)

-- where the rule on anchors is broken, each eligible place that is not good gets the kept anchor, relocated
unfoldable pub anchor_edits : ℕ → Layout → (ℕ → List ℕ) → KeptSequence → List (ℕ × List ℕ)
anchor_edits blocks layout disk sequence =
    if anchors_hold blocks layout disk sequence then []
    else map (λ place. (place, relocated place (disk sequence.place))) (bad_of disk sequence (eligible blocks layout))

unfoldable pub edits : ℕ → ℕ → (ℕ → List ℕ) → KeptSequence → List (ℕ × List ℕ)
edits size blocks disk sequence =
    sequence_edits size disk sequence
    ++ (anchor_edits blocks (layout_in size disk sequence) disk sequence ++ table_edits size disk sequence.list)
