-- The kept entries of a volume, and how many files and directories of them a logical volume integrity descriptor counts (UDF 2.2.6.4).
use Rattle.std.specs.Prelude.{ℕ, Bool, not, ◌&&◌, count_by, filter, sum_by, List}
use Rattle.udf_field.specs.declared.address.Addr.{Addr}
use Rattle.udf_file_model.specs.Listing.{Volume}
use Rattle.udf_tree_model.specs.Chosen.{fitted}
use Rattle.udf_tree_model.specs.Counts.{is_kept_directory, ordinary_entries}
use Rattle.udf_tree_model.specs.Frame.{Frame, is_holder, places, setting_of, tree_of}
use Rattle.udf_tree_model.specs.Kept.{kept}
use Rattle.udf_tree_model.specs.Link.{is_pointer, target_of}

-- kept, and not the holder of the pointer to the system stream directory
unfoldable pub is_kept_entry : Frame → Volume → Addr → Bool
is_kept_entry f v a = kept (setting_of f v) (tree_of f v) a && not (is_holder f v a)

-- in the order of addresses
unfoldable pub kept_entries : Frame → Volume → List Addr
kept_entries f v = filter (is_kept_entry f v) (places v)

-- the ordinary entries that are directories, and those that are none
unfoldable pub ordinary_directories : Frame → Volume → List Addr
ordinary_directories f v = filter (is_kept_directory f v) (ordinary_entries f v)

unfoldable pub ordinary_files : Frame → Volume → List Addr
ordinary_files f v = filter (λ a. not (is_kept_directory f v a)) (ordinary_entries f v)

-- how many fitted FIDs of a directory name entries that are no directories
unfoldable pub files_named_in : Frame → Volume → Addr → ℕ
files_named_in f v d =
    count_by (λ l. not (is_pointer l.says) && not (is_kept_directory f v (target_of l.says))) (fitted (setting_of f v) (tree_of f v) d)

-- the same of all ordinary directories together
unfoldable pub files_named : Frame → Volume → ℕ
files_named f v = sum_by (files_named_in f v) (ordinary_directories f v)
