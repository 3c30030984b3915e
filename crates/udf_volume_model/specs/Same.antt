-- What two images have in common, and which sectors that is read from.
use Rattle.std.specs.Prelude.{◌≡◌, ◌⊎◌, ℕ, Bool, true, Option, Some, None, ◌==◌, ◌&&◌, ◌||◌, List}
use Rattle.std.specs.List.{list_any}
use Rattle.udf_volume_model.specs.Anchor.{places}
use Rattle.udf_volume_model.specs.Kept.{KeptSequence, Main, kept_sequence_of}
use Rattle.udf_volume_model.specs.Areas.{area_of, table_areas, covers, is_outside, taken}
use Rattle.udf_volume_model.specs.Layout.{earlier}
use Rattle.udf_volume_model.specs.AllRules.{layout_in}
use Rattle.udf_model.specs.Image.{block_of, blocks_in}
use Rattle.udf_volume_model.specs.Opened.{is_opened, is_volume_unbroken}

-- Volumes of the same extents, descriptors and layout, the sparing table included, on the disks before and after, in an image of
-- so many blocks. The kept anchor stands where it stood or at an earlier place, and the kept sequence is the main one.
pub record IsSame (size blocks : ℕ) (disk disk_after : ℕ → List ℕ) (before after : KeptSequence) : Type 0 where
  pub anchor : after.anchor ≡ before.anchor
  pub list : after.list ≡ before.list
  pub layout : layout_in size disk_after after ≡ layout_in size disk before
  pub place : (after.place ≡ before.place) ⊎ (list_any (λ place. place == after.place) (earlier before.place (places blocks)) ≡ true)
  pub which : after.which ≡ Main

abbrev pub IsSameOn : ℕ → ℕ → (ℕ → List ℕ) → (ℕ → List ℕ) → Option KeptSequence → Option KeptSequence → Type 0
IsSameOn size blocks disk disk_after (Some before) (Some after) = IsSame size blocks disk disk_after before after
IsSameOn size blocks disk disk_after None after = ⊥
IsSameOn size blocks disk disk_after (Some before) None = ⊥

-- the volumes of two images are the same
abbrev pub IsSameVolume : ℕ → List ℕ → List ℕ → Type 0
IsSameVolume size image after =
    IsSameOn size (blocks_in size image) (block_of size image) (block_of size after) (kept_sequence_of size image) (kept_sequence_of size after)

-- a volume, its refusals and the rules are read from the sectors of both sequence extents and of the sparing tables, and from the
-- places outside what the volume takes
unfoldable pub is_read : ℕ → ℕ → (ℕ → List ℕ) → KeptSequence → ℕ → Bool
is_read size blocks disk sequence n =
    covers (area_of size sequence.anchor.main) n
    || (covers (area_of size sequence.anchor.reserve) n
    || (list_any (λ area. covers area n) (table_areas size sequence.list)
    || (list_any (λ place. place == n) (places blocks) && is_outside (taken (layout_in size disk sequence)) n)))

-- the other image has the same volume, is opened where it is, and breaks a rule exactly where the image does
pub record IsUnmoved (size : ℕ) (image other : List ℕ) : Type 0 where
  pub volume : kept_sequence_of size other ≡ kept_sequence_of size image
  pub opened : is_opened size other ≡ is_opened size image
  pub unbroken : is_volume_unbroken size other ≡ is_volume_unbroken size image
