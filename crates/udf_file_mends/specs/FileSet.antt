-- What the mend of a file set's pointer to the system stream directory makes of its block (ECMA-167 4/14.1.18), and what is known of the
-- volume's files after it.
use Rattle.std.specs.Prelude.{ℕ, Bool, not, ◌&&◌, if◌then◌else◌, None, List, [], ◌∷◌, replicate}
use Rattle.udf_model.specs.Bytes.{number_at, written_at}
use Rattle.udf_model.specs.Tag.{retagged}
use Rattle.udf_file_model.specs.Content.{block_at}
use Rattle.udf_file_model.specs.Listing.{Volume}
use Rattle.udf_tree_model.specs.Chosen.{selected}
use Rattle.udf_tree_model.specs.Frame.{Frame, is_holder, setting_of, tree_of}
use Rattle.udf_file_mends.specs.Mends.{edits_of}
use Rattle.udf_file_mends.specs.Wanted.{has_pointer}

-- the file set holds a pointer to a system stream directory, and that is not selected
unfoldable pub loses_system : Frame → Volume → Bool
loses_system f v = is_holder f v f.file_set && not (has_pointer (selected (setting_of f v) (tree_of f v) f.file_set))

-- the frame of the mended volume: such a pointer is gone
unfoldable pub frame_after : Frame → Volume → Frame
frame_after f v = record f { system = if loses_system f v then None else f.system }

-- the block of a file set with zeros for its pointer; the tag is new, and covers as many bytes as it did
unfoldable pub cleared_set : ℕ → List ℕ → List ℕ
cleared_set location block = retagged location (number_at 2 block 10) (written_at 464 (replicate 16 0) block)

-- the mended block of the file set
abbrev pub mended_set : Frame → Volume → List ℕ
mended_set f v =
    if loses_system f v then cleared_set f.file_set.block (block_at v f.file_set) else block_at v f.file_set

-- the mend of the file set, at its sector
unfoldable pub file_set_edits : Frame → Volume → List (ℕ × List ℕ)
file_set_edits f v = if loses_system f v then edits_of v ((f.file_set, mended_set f v) ∷ []) else []
