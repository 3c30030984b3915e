-- The extents of a volume have room for the kept descriptors and the block that ends them.
use Rattle.std.proofs.Common.{◌≡◌, ℕ, ◌+◌, ◌<◌, ◌≤◌, arith}
use Rattle.udf_volume_model.specs.Anchor.{blocks_for}
use Rattle.udf_volume.proofs.Extents.{ends_in}
use Rattle.udf_volume.specs.Seen.{extent_seen}
use Rattle.udf_volume.specs.Spans.{span_by}
use Rattle.udf_volume.specs.Opened.{IsBounded}
use Rattle.udf_volume.specs.declared.volume.Volume.{Volume}
use Rattle.udf_volume.specs.declared.volume.Which.{Which}
use Rattle.udf_volume.specs.declared.volume.Which.TheVariants.{Main, Reserve}

module _ (volume : Volume) (b : IsBounded volume.size volume.blocks volume) where
  pub room : (w : Which) → (span_by w volume).start + blocks_for volume.size (span_by w volume).length ≤ volume.blocks
  room Main = ends_in volume.size volume.blocks (extent_seen volume.main) b.main_inside
  room Reserve = ends_in volume.size volume.blocks (extent_seen volume.reserve) b.reserve_inside

  pub fits : (w : Which) → volume.count < blocks_for volume.size (span_by w volume).length
  fits Main = omega (arith, b.short)
  fits Reserve = omega (arith, b.short)

  pub end_inside : (w : Which) → (span_by w volume).start + volume.count < volume.blocks
  end_inside w = omega (arith, room w, fits w)

  pub last_inside : (w : Which) (start : ℕ) → start ≡ (span_by w volume).start → start + volume.count < volume.blocks
  last_inside w start s = omega (arith, end_inside w)
