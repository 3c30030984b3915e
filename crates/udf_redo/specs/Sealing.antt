-- What a log seals, and what it can hold.
use Rattle.std.specs.Prelude.{◌≡◌, ◌≤◌, ◌+◌, ◌*◌, ℕ, true, not, List, length}
use Rattle.sha2.specs.Sha256.{sha256}
use Rattle.udf_model.specs.Size.{is_size}
use Rattle.udf_outside.specs.Stops.{slice_of}
use Rattle.udf_volume_model.specs.Areas.{Area, covers}
use Rattle.udf_blocks.specs.Planned.{Planned, are_at, are_below, IsLawful}
use Rattle.udf_redo.specs.declared.head.LogHead.{LogHead}
use Rattle.udf_redo.specs.declared.seal.SealedRun.{SealedRun}

-- the sealed sectors
abbrev pub sealed_area : SealedRun → Area
sealed_area sealed = record { start = sealed.first; count = sealed.count }

-- the head of the log of a plan, for an image of so many blocks of which a run is sealed
abbrev pub head_for : Planned → ℕ → SealedRun → List ℕ → LogHead
head_for plan blocks sealed image = record {
  size = plan.size;
  blocks = blocks;
  first = sealed.first;
  sealed = sealed.count;
  seal = sha256 (slice_of image (sealed.first * plan.size) (sealed.count * plan.size));
  records = length plan.blocks;
}

-- A log of an image of so many blocks, of which a run is sealed, can hold the plan: there are blocks, in the image and none of
-- them sealed, and some sectors of the image are sealed.
pub record IsLoggable (blocks : ℕ) (sealed : SealedRun) (plan : Planned) : Type 0 where
  pub size : is_size plan.size ≡ true
  pub lawful : IsLawful plan
  pub some : 1 ≤ length plan.blocks
  pub inside : are_below blocks plan.blocks ≡ true
  pub unsealed : are_at (λ n. not (covers (sealed_area sealed) n)) plan.blocks ≡ true
  pub some_sealed : 1 ≤ sealed.count
  pub sealed_inside : sealed.first + sealed.count ≤ blocks
