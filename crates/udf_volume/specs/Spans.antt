-- The extents of a volume's sequences, by its fields.
use Rattle.std.specs.Prelude.{ℕ, List, min}
use Rattle.udf_model.specs.Image.{block_of}
use Rattle.udf_volume_model.specs.Sequence.{View, views}
use Rattle.udf_volume_model.specs.Anchor.{blocks_for}
use Rattle.udf_field.specs.declared.address.Span.{Span}
use Rattle.udf_volume.specs.declared.volume.Which.{Which}
use Rattle.udf_volume.specs.declared.volume.Which.TheVariants.{Main, Reserve}
use Rattle.udf_volume.specs.declared.volume.Volume.{Volume}

abbrev pub span_by : Which → Volume → Span
span_by Main volume = volume.main
span_by Reserve volume = volume.reserve

abbrev pub opposite : Which → Which
opposite Main = Reserve
opposite Reserve = Main

abbrev pub kept_span : Volume → Span
kept_span volume = span_by volume.kept volume

abbrev pub other_span : Volume → Span
other_span volume = span_by (opposite volume.kept) volume

abbrev pub limit_stated : Volume → ℕ
limit_stated volume = min (blocks_for volume.size volume.main.length) (blocks_for volume.size volume.reserve.length)

-- what the blocks of an extent of an image say
abbrev pub views_in : ℕ → List ℕ → Span → List View
views_in size image extent = views (block_of size image) extent.start (blocks_for size extent.length)
