-- What a repair writes of a volume before its files are known.
use Rattle.std.specs.Prelude.{◌≡◌, ℕ, List}
use Rattle.udf_model.specs.Image.{block_of}
use Rattle.udf_volume_model.specs.Opened.{plan_of, volume_mended}
use Rattle.udf_volume.specs.declared.volume.Volume.{Volume}
use Rattle.udf_rules_model.specs.Findings.{recognition_of}
use Rattle.udf_space_mends.specs.SlotMend.{recognition_edits}
use Rattle.udf_blocks.specs.PlanFor.{IsPlanFor}
use Rattle.udf_wanted.specs.Wanted.{LookAlike}
use Rattle.udf_wanted.specs.Writable.{AreWritable}
use Rattle.udf_repair_plan.specs.declared.draft.Draft.{Draft}

-- what the rule on the recognition sequence wants of an image, and the plan of the mend of its volume alone
pub record IsDraftOf (volume : Volume) (image : List ℕ) (draft : Draft) : Type 0 where
  pub recognised : LookAlike draft.wanted (recognition_edits (recognition_of volume image) (block_of volume.size image volume.pd))
  pub own : draft.own.blocks ≡ plan_of volume.size image (volume_mended volume.size image)

-- all of it may be written
pub record IsDraftFor (volume : Volume) (draft : Draft) : Type 0 where
  pub wanted : AreWritable volume draft.wanted
  pub own : IsPlanFor volume draft.own
