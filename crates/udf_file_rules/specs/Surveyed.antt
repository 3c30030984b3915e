-- A volume's files as a check has them.
use Rattle.std.specs.Prelude.{◌<◌}
use Rattle.udf_file_model.specs.Listing.{Volume}
use Rattle.udf_tree_model.specs.Frame.{Frame, setting_of, tree_of}
use Rattle.udf_tree_model.specs.Laws.{HasSoundStarts}
use Rattle.udf_tree_model.specs.Stated.{IsFileSetPlaced}
use Rattle.udf_found.specs.Beyond.{HoldsFileSet}
use Rattle.udf_kept.specs.Entries.{HasFileSet}
use Rattle.udf_tree.specs.Survey.{IsSurvey, View}
use Rattle.udf_volume.specs.declared.site.FileSet.{FileSet}

-- the file set and the survey are those of a volume whose starts are sound
pub record AreSurveyed (f : Frame) (v : Volume) (set : FileSet) (x : View) : Type 0 where
  pub some : 0 < v.size
  pub frame : HasFileSet f set
  pub holds : HoldsFileSet f v
  pub placed : IsFileSetPlaced f v
  pub starts : HasSoundStarts (setting_of f v) (tree_of f v)
  pub survey : IsSurvey f v x
