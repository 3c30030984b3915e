-- The FIDs of ordinary directories that name files, by the indexes of found entries.
use Rattle.std.specs.Prelude.{ℕ, Bool, false, not, ◌&&◌, cond, count_by, get_or, is_some, nat_le, slice_get, List, Option, Some, None}
use Rattle.udf_field.specs.declared.address.Addr.{Addr}
use Rattle.udf_file_model.specs.Listing.{Volume}
use Rattle.udf_tree_model.specs.Counts.{is_kept_directory}
use Rattle.udf_tree_model.specs.Frame.{Frame}
use Rattle.udf_tree_model.specs.Ordinary.{files_named_in}
use Rattle.udf_tree_model.specs.Parent.{ordinary}
use Rattle.udf_kept.specs.declared.entries.Entries.{Entries}
use Rattle.udf_kept.specs.declared.fitted.Fitted.{Fitted}
use Rattle.udf_held.specs.declared.held.Held.{Held}
use Rattle.udf_contents.specs.Stays.{fitted_by}

abbrev pub is_directory_held : Option Held → Bool
is_directory_held None = false
is_directory_held (Some h) = h.directory && is_some h.shape

-- a directory with a block of its own stands at the index
abbrev pub is_directory_in : List Held → ℕ → Bool
is_directory_in hs i = is_directory_held (slice_get hs i)

-- a FID that leads to none
abbrev pub is_of_file : List Held → Fitted → Bool
is_of_file hs x = nat_le 1 x.place && not (is_directory_in hs x.to)

-- how many such the entry at an index has, where it is an ordinary directory
abbrev pub files_seen : Entries → ℕ → ℕ
files_seen e i =
    cond (get_or e.ordinary.items i false && is_directory_in e.held.items i) (count_by (is_of_file e.held.items) (fitted_by (slice_get e.selected.items i))) 0

-- how many an address has by the definitions
abbrev pub files_from : Frame → Volume → Addr → ℕ
files_from f v a = cond (ordinary f v a && is_kept_directory f v a) (files_named_in f v a) 0
