-- The rules of a volume together, and all that is found where some are broken.
use Rattle.std.specs.Prelude.{ℕ, Bool, ◌&&◌, List, ◌++◌}
use Rattle.udf_volume_model.specs.Kept.{KeptSequence}
use Rattle.udf_volume_model.specs.Areas.{Layout, layout_of}
use Rattle.udf_volume_model.specs.Rules.{Finding, anchors_hold, sequences_hold, anchor_findings, sequence_findings}
use Rattle.udf_volume_model.specs.SparingRule.{tables_hold, table_findings}

-- what the volume of a kept sequence takes of the image
abbrev pub layout_in : ℕ → (ℕ → List ℕ) → KeptSequence → Layout
layout_in size disk sequence = layout_of size disk sequence.anchor sequence.list

unfoldable pub rules_hold : ℕ → ℕ → (ℕ → List ℕ) → KeptSequence → Bool
rules_hold size blocks disk sequence =
    anchors_hold blocks (layout_in size disk sequence) disk sequence
    && (sequences_hold size disk sequence && tables_hold size disk sequence.list)

-- in the order of rules, then of sectors
unfoldable pub findings : ℕ → ℕ → (ℕ → List ℕ) → KeptSequence → List Finding
findings size blocks disk sequence =
    anchor_findings blocks (layout_in size disk sequence) disk sequence
    ++ (sequence_findings size disk sequence ++ table_findings size disk sequence.list)
