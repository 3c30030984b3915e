-- The rules on kept entries: that the links of each name sound entries (number 6), that each wins all of its list and has the bytes
-- of its information length (7), that the contents of directories are whole (8), that names are unique and each directory has one
-- link (9), and that link counts (10) and identifiers (11) are those that are wanted. Of each rule what is found where it is broken,
-- in the order of addresses. Directories are those of file type 4 and stream directories (ECMA-167 4/14.6.6).
use Rattle.std.specs.Prelude.{ℕ, Bool, true, not, ◌-◌, ◌&&◌, ◌||◌, ◌==◌, nat_le, nat_lt, min, if◌then◌else◌, length, Option, Some, None, List, [], ◌∷◌, ◌++◌, map, filter, find}
use Rattle.std.specs.List.{flat_map, list_any, list_all}
use Rattle.std.specs.Str.{bytes_eq}
use Rattle.udf_field.specs.declared.address.Addr.{Addr}
use Rattle.udf_file_model.specs.Entry.{Entry}
use Rattle.udf_file_model.specs.Listing.{Volume}
use Rattle.udf_volume_model.specs.Rules.{Finding}
use Rattle.udf_tree_model.specs.Chosen.{selected}
use Rattle.udf_tree_model.specs.Claimed.{allocation_holds}
use Rattle.udf_tree_model.specs.Content.{content_holds, kept_content, mended_content}
use Rattle.udf_tree_model.specs.Counts.{high_count, id_of, kept_directories, low_count, ordinary_entries, wanted_id, wanted_links}
use Rattle.udf_tree_model.specs.Found.{found}
use Rattle.udf_tree_model.specs.Frame.{Frame, entry_at, is_holder, places, setting_of, tree_of}
use Rattle.udf_tree_model.specs.Kept.{kept}
use Rattle.udf_tree_model.specs.Link.{Link, is_pointer, name_of, target_of}
use Rattle.udf_tree_model.specs.Node.{Setting, Tree, is_entry}
use Rattle.udf_tree_model.specs.Ordinary.{kept_entries}
use Rattle.udf_tree_model.specs.Parent.{is_stream_directory, parent}
use Rattle.udf_tree_model.specs.Rules.{is_chosen, is_directory_entry, is_named, targets_hold}
use Rattle.udf_tree_model.specs.Won.{kept_length, kept_links, sound}
use Rattle.udf_rules_model.specs.Found.{found_at, unless}

-- the kept entries in the order of addresses, and among them the file set where it holds the pointer to the system stream directory
unfoldable pub kept_holders : Frame → Volume → List Addr
kept_holders f v = filter (kept (setting_of f v) (tree_of f v)) (places v)

-- the offset of a FID in the content of its directory
abbrev pub offset_of : Link → ℕ
offset_of l = l.place - 1

-- Targets. A FID names a sound entry ..
abbrev pub has_target : Setting → Tree → Link → Bool
has_target s t l = sound s t (target_of l.says) && is_entry s t (target_of l.says)

-- .. and a pointer is selected: it leads to a sound directory, as its chosen link
abbrev pub is_selected : Setting → Tree → Addr → Link → Bool
is_selected s t a l = list_any (λ g. g.place == l.place) (selected s t a)

abbrev pub target_finding : Addr → Link → Finding
target_finding a l = found_at 6 a (offset_of l) (target_of l.says).block

abbrev pub pointers_hold : Setting → Tree → Addr → Bool
pointers_hold s t a = list_all (λ l. not (is_pointer l.says) || is_selected s t a l) (kept_links s t a)

-- The rule on targets.
unfoldable pub targets_rule : Frame → Volume → Bool
targets_rule f v =
    list_all (λ a. targets_hold (setting_of f v) (tree_of f v) a && pointers_hold (setting_of f v) (tree_of f v) a) (kept_holders f v)

-- the FIDs of a holder without a target, in the order of offsets
unfoldable pub fids_astray : Setting → Tree → Addr → List Link
fids_astray s t a = filter (λ l. not (is_pointer l.says) && not (has_target s t l)) (kept_links s t a)

-- its pointer, where that is not selected
unfoldable pub pointers_astray : Setting → Tree → Addr → List Link
pointers_astray s t a = filter (λ l. is_pointer l.says && not (is_selected s t a l)) (kept_links s t a)

-- a finding of a pointer among those of FIDs: the value at which it stands is 0, and the lower target goes first
abbrev pub with_pointer : Finding → List Finding → List Finding
with_pointer pointer [] = pointer ∷ []
with_pointer pointer (fid ∷ rest) =
    if (fid.first == 0) && nat_lt fid.second pointer.second then fid ∷ pointer ∷ rest else pointer ∷ fid ∷ rest

abbrev pub with_pointers : List Finding → List Finding → List Finding
with_pointers [] fids = fids
with_pointers (pointer ∷ rest) fids = with_pointer pointer fids

unfoldable pub targets_at : Frame → Volume → Addr → List Finding
targets_at f v a =
    with_pointers
    (map (target_finding a) (pointers_astray (setting_of f v) (tree_of f v) a))
    (map (target_finding a) (fids_astray (setting_of f v) (tree_of f v) a))

unfoldable pub target_findings : Frame → Volume → List Finding
target_findings f v = flat_map (targets_at f v) (kept_holders f v)

-- The rule on allocation (4/12.1): nothing of a list fails, the entry wins all of it, and it has the bytes of the information length.
abbrev pub allocation_rule_by : Frame → Volume → Addr → Option Entry → Bool
allocation_rule_by f v a None = true
allocation_rule_by f v a (Some e) = allocation_holds f v a e

unfoldable pub allocation_rule : Frame → Volume → Bool
allocation_rule f v = list_all (λ a. allocation_rule_by f v a (entry_at v a)) (kept_entries f v)

-- the information length, and what of it is kept
abbrev pub allocation_by : Frame → Volume → Addr → Option Entry → List Finding
allocation_by f v a None = []
allocation_by f v a (Some e) =
    unless (allocation_holds f v a e) (found_at 7 a e.information (min e.information (kept_length (setting_of f v) (tree_of f v) a)))

unfoldable pub allocation_findings : Frame → Volume → List Finding
allocation_findings f v = flat_map (λ a. allocation_by f v a (entry_at v a)) (kept_entries f v)

-- Contents. FIDs stand one after another to the end of each, as `content_holds` has it.
unfoldable pub content_is_whole : Frame → Volume → Addr → Bool
content_is_whole f v d =
    content_holds v.size (is_stream_directory (setting_of f v) (tree_of f v) d) (parent f v d) (kept_content f v d)

-- The rule on contents.
unfoldable pub content_rule : Frame → Volume → Bool
content_rule f v = list_all (content_is_whole f v) (kept_directories f v)

-- the length of the content, and of the mended one
unfoldable pub content_findings : Frame → Volume → List Finding
content_findings f v =
    flat_map (λ d. unless (content_is_whole f v d) (found_at 8 d (length (kept_content f v d)) (length (mended_content f v d)))) (kept_directories f v)

-- Names and links. A FID is the first of its name and, where it names a directory that is found, the chosen link to it; an unsound
-- directory has none. What a cut content alone names need not be found.
abbrev pub is_lawful_link : Setting → Tree → Addr → Link → Bool
is_lawful_link s t d l =
    is_named s t d l
    && (not (found s t (target_of l.says) && is_directory_entry s t (target_of l.says)) || (sound s t (target_of l.says) && is_chosen s t d l))

unfoldable pub names_lawful : Setting → Tree → Addr → Bool
names_lawful s t d = list_all (λ l. is_pointer l.says || is_lawful_link s t d l) (kept_links s t d)

-- The rule on names and links.
unfoldable pub names_rule : Frame → Volume → Bool
names_rule f v = list_all (names_lawful (setting_of f v) (tree_of f v)) (kept_directories f v)

abbrev pub offset_by : Option Link → ℕ
offset_by None = 0
offset_by (Some l) = offset_of l

-- the offset of the first FID of its name
unfoldable pub first_of_name : List Link → Link → ℕ
first_of_name ls l = offset_by (find (λ g. bytes_eq (name_of g.says) (name_of l.says)) ls)

-- the offset of a FID, and that of the first of its name where that is an earlier one, else 0
abbrev pub name_finding : Setting → Tree → Addr → Link → Finding
name_finding s t d l = found_at 9 d (offset_of l) (if is_named s t d l then 0 else first_of_name (kept_links s t d) l)

unfoldable pub names_at : Setting → Tree → Addr → List Finding
names_at s t d = map (name_finding s t d) (filter (λ l. not (is_pointer l.says) && not (is_lawful_link s t d l)) (kept_links s t d))

unfoldable pub name_findings : Frame → Volume → List Finding
name_findings f v = flat_map (names_at (setting_of f v) (tree_of f v)) (kept_directories f v)

-- Link counts. A count lies from the least to the greatest that is lawful.
abbrev pub counts_by : Frame → Volume → Addr → Option Entry → Bool
counts_by f v a None = true
counts_by f v a (Some e) = nat_le (low_count f v a) e.links && nat_le e.links (high_count f v a)

-- The rule on link counts.
unfoldable pub count_rule : Frame → Volume → Bool
count_rule f v = list_all (λ a. counts_by f v a (entry_at v a)) (kept_entries f v)

abbrev pub links_by : Option Entry → ℕ
links_by None = 0
links_by (Some e) = e.links

-- the count that is found, and the wanted one
unfoldable pub count_findings : Frame → Volume → List Finding
count_findings f v =
    flat_map (λ a. unless (counts_by f v a (entry_at v a)) (found_at 10 a (links_by (entry_at v a)) (wanted_links f v a))) (kept_entries f v)

-- The rule on identifiers of ordinary entries.
unfoldable pub identifier_rule : Frame → Volume → Bool
identifier_rule f v = list_all (λ a. id_of v a == wanted_id f v a) (ordinary_entries f v)

-- the identifier that is found, and the wanted one
unfoldable pub identifier_findings : Frame → Volume → List Finding
identifier_findings f v = flat_map (λ a. unless (id_of v a == wanted_id f v a) (found_at 11 a (id_of v a) (wanted_id f v a))) (ordinary_entries f v)
