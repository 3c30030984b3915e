-- The view of a block in the code, as the definitions have it.
use Rattle.udf_volume_model.specs.Sequence as model
use Rattle.udf_volume.specs.declared.sequence.View.{View}
use Rattle.udf_volume.specs.declared.sequence.View.TheVariants as view

abbrev pub view_seen : View → model.View
view_seen view.End = model.End
view_seen view.Spoiled = model.Spoiled
view_seen (view.Listed descriptor) = model.Listed descriptor
