-- What calls that read an image ask of the bench: the image's blocks, or a volume that was opened over them.
use Rattle.std.specs.Prelude.{ℕ, ◌*◌, ◌≤◌}
use Rattle.udf_outside.specs.Files.{Files, IsAttached}
use Rattle.udf_outside.specs.declared.bench.Role.TheVariants.{Image}
use Rattle.udf_volume.specs.Opened.{IsBounded}
use Rattle.udf_volume.specs.declared.volume.Volume.{Volume}

-- the image is attached, and has so many whole blocks of a size, which is at least 512
pub record HasBlocks (size blocks : ℕ) (files : Files) : Type 0 where
  pub attached : IsAttached Image files
  pub within : blocks * size ≤ files.image.size
  pub large : 512 ≤ size

-- the volume was opened over this image: its blocks are the image's, and its fields are bounded
pub record IsOver (volume : Volume) (files : Files) : Type 0 where
  pub attached : IsAttached Image files
  pub within : volume.blocks * volume.size ≤ files.image.size
  pub large : 512 ≤ volume.size
  pub bounded : IsBounded volume.size volume.blocks volume
