-- Extents, anchors and kept sequences of the code, as the definitions have them.
use Rattle.udf_field.specs.declared.address.Span.{Span}
use Rattle.udf_volume_model.specs.Anchor as model
use Rattle.udf_volume_model.specs.Kept as model_kept
use Rattle.udf_volume.specs.declared.anchor.Anchor.{Anchor}
use Rattle.udf_volume.specs.declared.volume.Which.{Which}
use Rattle.udf_volume.specs.declared.volume.Which.TheVariants as which

abbrev pub extent_seen : Span → model.Extent
extent_seen span = record { bytes = span.length; start = span.start }

abbrev pub span_of : model.Extent → Span
span_of extent = record { length = extent.bytes; start = extent.start }

abbrev pub anchor_seen : Anchor → model.Anchor
anchor_seen anchor = record { main = extent_seen anchor.main; reserve = extent_seen anchor.reserve }

abbrev pub which_seen : Which → model_kept.Which
which_seen which.Main = model_kept.Main
which_seen which.Reserve = model_kept.Reserve
