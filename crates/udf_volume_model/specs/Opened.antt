-- Images with a lawful volume description, the mended image, and its difference from the image.
use Rattle.std.specs.Prelude.{ℕ, Bool, false, Option, Some, None, not, ◌&&◌, nat_lt, if◌then◌else◌, List, length, filter, map}
use Rattle.std.specs.List.{range_with_len}
use Rattle.std.specs.Str.{bytes_eq}
use Rattle.udf_model.specs.Image.{block_of, blocks_in}
use Rattle.udf_volume_model.specs.Kept.{KeptSequence, kept, kept_sequence_of}
use Rattle.udf_volume_model.specs.Areas.{Area, covers}
use Rattle.udf_volume_model.specs.Profile.{is_profile}
use Rattle.udf_volume_model.specs.Layout.{is_lawful, is_spared}
use Rattle.udf_volume_model.specs.AllRules.{rules_hold}
use Rattle.udf_volume_model.specs.Edits.{put_blocks}
use Rattle.udf_volume_model.specs.Mended.{edits}

abbrev pub is_opened_by : ℕ → ℕ → (ℕ → List ℕ) → Option KeptSequence → Bool
is_opened_by size blocks disk None = false
is_opened_by size blocks disk (Some sequence) =
    is_profile size sequence.list && (is_lawful size blocks disk sequence && is_spared size blocks disk sequence)

-- a volume is opened: no refusal of its description applies
unfoldable pub is_opened : ℕ → List ℕ → Bool
is_opened size image =
    nat_lt (blocks_in size image) 4294967296
    && is_opened_by size (blocks_in size image) (block_of size image) (kept_sequence_of size image)

abbrev pub mended_by : ℕ → List ℕ → Option KeptSequence → List ℕ
mended_by size image None = image
mended_by size image (Some sequence) = put_blocks size (edits size (blocks_in size image) (block_of size image) sequence) image

-- the image with each structure of its volume that breaks a rule mended; an image without a volume has no such structure
unfoldable pub volume_mended : ℕ → List ℕ → List ℕ
volume_mended size image = if is_opened size image then mended_by size image (kept_sequence_of size image) else image

abbrev pub is_volume_unbroken_by : ℕ → List ℕ → Option KeptSequence → Bool
is_volume_unbroken_by size image None = false
is_volume_unbroken_by size image (Some sequence) = rules_hold size (blocks_in size image) (block_of size image) sequence

-- there is a kept sequence, and the rules hold on its volume
unfoldable pub is_volume_unbroken : ℕ → List ℕ → Bool
is_volume_unbroken size image = is_volume_unbroken_by size image (kept_sequence_of size image)

-- the sectors in which two images differ
unfoldable pub difference : ℕ → List ℕ → List ℕ → List ℕ
difference size image after =
    filter (λ n. not (bytes_eq (block_of size image n) (block_of size after n))) (range_with_len 0 (blocks_in size image))

-- those sectors, ascending, with the blocks that stand there afterwards
unfoldable pub plan_of : ℕ → List ℕ → List ℕ → List (ℕ × List ℕ)
plan_of size image after = map (λ n. (n, block_of size after n)) (difference size image after)

-- the blocks of the kept descriptors, which no mend writes
abbrev pub sealed : KeptSequence → Area
sealed sequence = record { start = (kept sequence).start; count = length sequence.list }

unfoldable pub is_sealed : KeptSequence → ℕ → Bool
is_sealed sequence n = covers (sealed sequence) n
