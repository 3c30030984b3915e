-- What a directory that is kept has to hold, and what its mend makes of its content.
use Rattle.std.specs.Prelude.{ℕ, Bool, not, ◌&&◌, ◌||◌, ◌==◌, ◌∷◌, [], ◌++◌, List, replicate, slice_index, count_by, find, Option, Some, None, if◌then◌else◌}
use Rattle.std.specs.List.{list_all}
use Rattle.std.specs.Str.{bytes_eq}
use Rattle.udf_field.specs.declared.address.Addr.{Addr}
use Rattle.udf_model.specs.Bytes.{with_number}
use Rattle.udf_model.specs.Tag.{retagged}
use Rattle.udf_file_model.specs.Address.{same_addr}
use Rattle.udf_file_model.specs.Entry.{Entry}
use Rattle.udf_file_model.specs.Descriptors.{Descriptor}
use Rattle.udf_file_model.specs.Pieces.{runs_of}
use Rattle.udf_file_model.specs.Listing.{Volume, list_for}
use Rattle.udf_file_model.specs.Content.{block_at}
use Rattle.udf_file_model.specs.Fid.{is_deleted, is_live, is_parent, target}
use Rattle.udf_file_model.specs.Scan.{fids, fids_of}
use Rattle.udf_file_model.specs.Pack.{packed}
use Rattle.udf_file_model.specs.Anew.{named_anew}
use Rattle.udf_tree_model.specs.Link.{Link, Says, Pointer, Fid}
use Rattle.udf_tree_model.specs.Won.{kept_length}
use Rattle.udf_tree_model.specs.Chosen.{fitted}
use Rattle.udf_tree_model.specs.Frame.{Frame, entry_at, content_to, setting_of, tree_of}
use Rattle.udf_tree_model.specs.Rules.{targets_hold, names_hold}
use Rattle.udf_tree_model.specs.Parent.{parent, is_stream_directory}

abbrev pub content_by : Frame → Volume → Addr → Option Entry → List ℕ
content_by f v a None = []
content_by f v a (Some e) = content_to v e (list_for v a e) (kept_length (setting_of f v) (tree_of f v) a)

-- the content of a directory up to the kept length
unfoldable pub kept_content : Frame → Volume → Addr → List ℕ
kept_content f v a = content_by f v a (entry_at v a)

-- its FIDs, each as its bytes
abbrev pub kept_fids : Frame → Volume → Addr → List (List ℕ)
kept_fids f v a = fids_of (fids v.size (kept_content f v a))

-- the rule on contents: FIDs one after another to its end, each deleted, live or a parent, one of them a parent; and unless the
-- directory is a stream directory this names the directory's parent (ECMA-167 4/8.6)
unfoldable pub content_holds : ℕ → Bool → Addr → List ℕ → Bool
content_holds size stream parent content =
    bytes_eq content (packed (fids_of (fids size content)))
    && (list_all (λ fid. is_deleted fid || (is_live fid || is_parent fid)) (fids_of (fids size content))
    && ((count_by is_parent (fids_of (fids size content)) == 1)
    && list_all (λ fid. not (is_parent fid) || (stream || same_addr (target fid).at parent)) (fids_of (fids size content))))

-- the content of a kept directory needs no mend
unfoldable pub content_stays : Frame → Volume → Addr → Bool
content_stays f v a =
    targets_hold (setting_of f v) (tree_of f v) a
    && (names_hold (setting_of f v) (tree_of f v) a
    && content_holds v.size (is_stream_directory (setting_of f v) (tree_of f v) a) (parent f v a) (kept_content f v a))

-- 4/14.4: tag 257 with version and serial number of the directory's entry, file version 1, characteristics directory and
-- parent, no name, and an ICB of a block at the parent
unfoldable pub fresh_parent : ℕ → List ℕ → ℕ → Addr → List ℕ
fresh_parent size entry location at =
    named_anew at (retagged location 24 (with_number 4 20 size (
    (1 ∷ 1 ∷ slice_index entry 2 ∷ slice_index entry 3 ∷ 0 ∷ 0 ∷ slice_index entry 6 ∷ slice_index entry 7 ∷ replicate 8 0)
    ++ (1 ∷ 0 ∷ 10 ∷ 0 ∷ replicate 20 0))))

abbrev pub first_block : ℕ → List Descriptor → ℕ
first_block own [] = own
first_block own (d ∷ ds) = d.at.block

-- where the FIDs of a directory stand: at its first extent, or in its own block where they are embedded
abbrev pub content_location : Volume → Addr → Option Entry → ℕ
content_location v a None = a.block
content_location v a (Some e) = first_block a.block (runs_of (list_for v a e))

abbrev pub parent_fid_by : Frame → Volume → Addr → Option (List ℕ) → List ℕ
parent_fid_by f v a None = fresh_parent v.size (block_at v a) (content_location v a (entry_at v a)) (parent f v a)
parent_fid_by f v a (Some fid) = named_anew (parent f v a) fid

-- the first parent FID of the content, or a fresh one, with the parent's address
unfoldable pub parent_fid : Frame → Volume → Addr → List ℕ
parent_fid f v a = parent_fid_by f v a (find is_parent (kept_fids f v a))

abbrev pub fid_of : Says → List ℕ
fid_of (Pointer a) = []
fid_of (Fid fid) = fid

-- the fitted FIDs of a directory, one after another
abbrev pub fitted_bytes : List Link → List ℕ
fitted_bytes [] = []
fitted_bytes (f ∷ fs) = fid_of f.says ++ fitted_bytes fs

-- the content itself where it needs no mend, else the parent FID and the fitted FIDs, byte for byte
unfoldable pub mended_content : Frame → Volume → Addr → List ℕ
mended_content f v a =
    if content_stays f v a then kept_content f v a
    else parent_fid f v a ++ fitted_bytes (fitted (setting_of f v) (tree_of f v) a)
