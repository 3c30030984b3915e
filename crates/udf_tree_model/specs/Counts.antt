-- How many links a kept entry may state (ECMA-167 4/14.9.6), and the identifiers of kept entries (4/14.9.18).
use Rattle.std.specs.Prelude.{ℕ, ◌+◌, ◌^◌, Bool, false, not, ◌&&◌, ◌==◌, nat_le, nat_lt, min, max, length, sum_by, count_by, filter, slice_index, List, Option, Some, None, if◌then◌else◌}
use Rattle.std.specs.List.{list_any, range_with_len}
use Rattle.udf_field.specs.declared.address.Addr.{Addr}
use Rattle.udf_file_model.specs.Address.{same_addr}
use Rattle.udf_file_model.specs.Entry.{Entry, is_directory}
use Rattle.udf_file_model.specs.Listing.{Volume}
use Rattle.udf_file_model.specs.Fid.{is_parent, target}
use Rattle.udf_file_model.specs.Scan.{fids, fids_of}
use Rattle.udf_tree_model.specs.Link.{is_pointer}
use Rattle.udf_tree_model.specs.Found.{leads_to}
use Rattle.udf_tree_model.specs.Chosen.{fitted, is_lower}
use Rattle.udf_tree_model.specs.Kept.{kept}
use Rattle.udf_tree_model.specs.Frame.{Frame, entry_at, places, setting_of, tree_of}
use Rattle.udf_tree_model.specs.Parent.{is_stream_directory, ordinary}
use Rattle.udf_tree_model.specs.Content.{mended_content}

abbrev pub is_directory_by : Option Entry → Bool
is_directory_by None = false
is_directory_by (Some e) = is_directory e

-- an entry that is kept and is a directory; the file set is none, though it holds a pointer
abbrev pub is_kept_directory : Frame → Volume → Addr → Bool
is_kept_directory f v d = kept (setting_of f v) (tree_of f v) d && is_directory_by (entry_at v d)

abbrev pub is_stream : Frame → Volume → Addr → Bool
is_stream f v d = is_stream_directory (setting_of f v) (tree_of f v) d

-- how many fitted FIDs of a directory identify an entry
unfoldable pub named_in : Frame → Volume → Addr → Addr → ℕ
named_in f v a d = count_by (λ link. not (is_pointer link.says) && leads_to a link) (fitted (setting_of f v) (tree_of f v) d)

-- how many parent FIDs of a directory's mended content identify an entry
unfoldable pub parents_in : Frame → Volume → Addr → Addr → ℕ
parents_in f v a d = count_by (λ fid. is_parent fid && same_addr (target fid).at a) (fids_of (fids v.size (mended_content f v d)))

-- the directories of all that is kept, and the stream directories of them
unfoldable pub kept_directories : Frame → Volume → List Addr
kept_directories f v = filter (is_kept_directory f v) (places v)

-- by fitted FIDs, and by the parent FIDs of directories that are no stream directories
unfoldable pub links_without_streams : Frame → Volume → Addr → ℕ
links_without_streams f v a =
    sum_by (named_in f v a) (kept_directories f v)
    + sum_by (parents_in f v a) (filter (λ d. not (is_stream f v d)) (kept_directories f v))

-- and by the parent FIDs of stream directories, and by the pointer of a stream directory
unfoldable pub links_with_streams : Frame → Volume → Addr → ℕ
links_with_streams f v a =
    links_without_streams f v a + sum_by (parents_in f v a) (filter (is_stream f v) (kept_directories f v)) + (if is_stream f v a then 1 else 0)

-- a link count has 16 bits
unfoldable pub low_count : Frame → Volume → Addr → ℕ
low_count f v a = min 65535 (links_without_streams f v a)

unfoldable pub high_count : Frame → Volume → Addr → ℕ
high_count f v a = min 65535 (links_with_streams f v a)

-- a count between the two stays; else it is the low one, and at least 1
abbrev pub links_between : ℕ → ℕ → ℕ → ℕ
links_between low high found = if nat_le low found && nat_le found high then found else max 1 low

abbrev pub links_by : Frame → Volume → Addr → Option Entry → ℕ
links_by f v a None = 0
links_by f v a (Some e) = links_between (low_count f v a) (high_count f v a) e.links

unfoldable pub wanted_links : Frame → Volume → Addr → ℕ
wanted_links f v a = links_by f v a (entry_at v a)

abbrev pub id_by : Option Entry → ℕ
id_by None = 0
id_by (Some e) = e.id

abbrev pub id_of : Volume → Addr → ℕ
id_of v a = id_by (entry_at v a)

-- UDF 2.3.6.7 and 3.2.1.1: the root has 0, and those from 1 to 15 are reserved
abbrev pub is_lawful_id : ℕ → Bool
is_lawful_id id = nat_le 16 id && nat_lt id (2 ^ 63)

-- the ordinary entries, in the order of their addresses
unfoldable pub ordinary_entries : Frame → Volume → List Addr
ordinary_entries f v = filter (ordinary f v) (places v)

-- an ordinary entry but the root keeps a lawful identifier that no ordinary entry at a lower address has
unfoldable pub keeps_id : Frame → Volume → Addr → Bool
keeps_id f v a =
    not (same_addr a f.root)
    && (is_lawful_id (id_of v a)
    && not (list_any (λ b. is_lower b a && (id_of v b == id_of v a)) (ordinary_entries f v)))

abbrev pub is_id_kept : Frame → Volume → ℕ → Bool
is_id_kept f v id = list_any (λ b. keeps_id f v b && (id_of v b == id)) (ordinary_entries f v)

-- as many identifiers from 16 on as there are ordinary entries, without those that are kept
unfoldable pub free_ids : Frame → Volume → List ℕ
free_ids f v = filter (λ id. not (is_id_kept f v id)) (range_with_len 16 (length (ordinary_entries f v)))

abbrev pub takes_id : Frame → Volume → Addr → Bool
takes_id f v a = not (same_addr a f.root) && not (keeps_id f v a)

-- the place of an entry among those that take a new one, in the order of addresses
unfoldable pub place_among_takers : Frame → Volume → Addr → ℕ
place_among_takers f v a = count_by (λ b. is_lower b a && takes_id f v b) (ordinary_entries f v)

-- the wanted identifier: of the root 0; of an ordinary entry its own where it keeps that, else the free one that is its turn; of
-- another entry its own
unfoldable pub wanted_id : Frame → Volume → Addr → ℕ
wanted_id f v a =
    if same_addr a f.root then 0
    else (if ordinary f v a && takes_id f v a then slice_index (free_ids f v) (place_among_takers f v a) else id_of v a)
