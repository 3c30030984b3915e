-- The recognition sequence of a volume that was opened, by its fields and its layout.
use Rattle.std.specs.Prelude.{ℕ, Bool, not, ◌&&◌, ◌==◌, List}
use Rattle.std.specs.List.{list_any}
use Rattle.udf_volume_model.specs.Areas.{is_outside, taken}
use Rattle.udf_volume.specs.Areas.{layout_seen}
use Rattle.udf_volume.specs.declared.opened.Opened.{Opened}
use Rattle.udf_volume.specs.declared.taken.Layout.{Layout}
use Rattle.udf_rules_model.specs.Recognition.{Recognition}

abbrev pub recognition_by : Opened → (ℕ → List ℕ) → Recognition
recognition_by opened disk = record {
  size = opened.volume.size;
  blocks = opened.volume.blocks;
  disk = disk;
  layout = layout_seen opened.layout;
}

-- no area and no used packet has the sector, and none of these places is it
abbrev pub is_untaken_by : Layout → List ℕ → ℕ → Bool
is_untaken_by layout places n = is_outside (taken (layout_seen layout)) n && not (list_any (λ place. place == n) places)
