-- Where the blocks of a base partition stand.
use Rattle.std.specs.Prelude.{◌≡◌, ◌<◌, ℕ, Option, Some}
use Rattle.udf_file_model.specs.Place.{physical_place, sparable_place}
use Rattle.udf_layer.specs.Physicals.{physical_within, physical_apart}
use Rattle.udf_layer.specs.Spared.{sparable_within, sparable_apart}
use Rattle.udf_layer.specs.declared.physical.Physical as TheLayer
use Rattle.udf_volume.specs.declared.volume.Volume.{Volume}
use Rattle.udf_partitions.specs.declared.base.Base.{Base}
use Rattle.udf_partitions.specs.declared.base.Base.TheVariants.{Physical, Sparable}

abbrev pub base_blocks : Base → ℕ
base_blocks (Physical layer) = layer.blocks
base_blocks (Sparable layer) = layer.below.blocks

abbrev pub base_place : Base → ℕ → Option ℕ
base_place (Physical layer) = physical_place layer.start layer.blocks
base_place (Sparable layer) =
    sparable_place layer.table.packet layer.table.pairs layer.below.blocks (physical_place layer.below.start layer.below.blocks)

pub base_within : (base : Base) (n s : ℕ) → base_place base n ≡ Some s → n < base_blocks base
base_within (Physical layer) = physical_within layer.start layer.blocks
base_within (Sparable layer) = sparable_within layer.table.packet layer.table.pairs layer.below.blocks (physical_place layer.below.start layer.below.blocks)

pub base_apart : (base : Base) (m n s : ℕ) → base_place base m ≡ Some s → base_place base n ≡ Some s → m ≡ n
base_apart (Physical layer) = physical_apart layer.start layer.blocks
base_apart (Sparable layer) =
    sparable_apart layer.table.packet layer.table.pairs layer.below.blocks (physical_place layer.below.start layer.below.blocks) layer.some layer.spare
    (physical_apart layer.below.start layer.below.blocks)

-- it is the partition of the volume, of blocks that follow one another
pub record IsPartition (volume : Volume) (layer : TheLayer.Physical) : Type 0 where
  pub start : layer.start ≡ volume.start
  pub blocks : layer.blocks ≡ volume.length
