-- Plans for a volume.
use Rattle.std.specs.Prelude.{◌≡◌, ℕ, true, not}
use Rattle.udf_volume_model.specs.Areas.{Area, covers}
use Rattle.udf_volume.specs.Spans.{kept_span}
use Rattle.udf_volume.specs.declared.volume.Volume.{Volume}
use Rattle.udf_blocks.specs.Planned.{Planned, are_at, are_below, IsLawful}

-- the blocks of the kept descriptors
abbrev pub sealed_stated : Volume → Area
sealed_stated volume = record { start = (kept_span volume).start; count = volume.count }

-- a plan for a volume: lawful, of the volume's block size, in the image, and on no sealed sector
pub record IsPlanFor (volume : Volume) (plan : Planned) : Type 0 where
  pub size : plan.size ≡ volume.size
  pub lawful : IsLawful plan
  pub inside : are_below volume.blocks plan.blocks ≡ true
  pub unsealed : are_at (λ n. not (covers (sealed_stated volume) n)) plan.blocks ≡ true
