-- What reading a list gives in the end, told by what came before and what is left.
use Rattle.std.specs.Prelude.{Bool, List, ◌++◌}
use Rattle.udf_field.specs.declared.address.Addr.{Addr}
use Rattle.udf_file_model.specs.Descriptors.{Descriptor}
use Rattle.udf_file_model.specs.Pieces.{Piece, runs_of, extents_of}
use Rattle.udf_file_model.specs.Front.{Rules, Past, good_front, is_good}

-- its runs, its allocation extents, and whether all is good
pub record Outcome : Type 0 where
  pub runs : List Descriptor
  pub extents : List Addr
  pub good : Bool

-- what reading these pieces after the past gives
unfoldable pub outcome : Rules → (Addr → Bool) → Past → List Piece → Outcome
outcome r whole past rest = record {
  runs = past.runs ++ runs_of (good_front r whole past rest);
  extents = past.extents ++ extents_of (good_front r whole past rest);
  good = is_good r whole past rest;
}

abbrev pub ended : Past → Bool → Outcome
ended past good = record { runs = past.runs; extents = past.extents; good = good }

abbrev pub with_front : Past → List Descriptor → Past
with_front past ds = record { runs = past.runs ++ ds; extents = past.extents }
