-- Entries that no damage touches.
use Rattle.std.specs.Prelude.{◌≡◌, ◌≢◌, ◌≤◌, ℕ, true, List, Some, Contains}
use Rattle.std.specs.List.{list_any}
use Rattle.udf_field.specs.declared.address.Addr.{Addr}
use Rattle.udf_file_model.specs.Content.{content}
use Rattle.udf_file_model.specs.Entry.{Entry, is_directory}
use Rattle.udf_file_model.specs.Fid.{is_parent}
use Rattle.udf_file_model.specs.Listing.{Volume, good_length, is_good_for, list_for}
use Rattle.udf_file_model.specs.Pieces.{runs_of}
use Rattle.udf_file_model.specs.Scan.{fids, fids_of}
use Rattle.udf_tree_model.specs.Found.{found, whole_links}
use Rattle.udf_tree_model.specs.Frame.{Frame, entry_at, setting_of, tree_of}
use Rattle.udf_tree_model.specs.Link.{Link, target_of}
use Rattle.udf_tree_model.specs.Node.{Item}
use Rattle.udf_tree_model.specs.Won.{IsFree, IsWant, kept_links}

-- the bytes of an entry (ECMA-167 4/12): those of its list, or its embedded ones, up to the information length
unfoldable pub bytes_at : Volume → Addr → Entry → List ℕ
bytes_at v a e = content v e (runs_of (list_for v a e)) e.information

-- a found entry, or the file set, has a link that leads to an address; `links` gives the links of each: the live FIDs of its
-- content (4/14.4), and its pointer to a stream directory (4/14.17.20, 4/14.1.18)
pub record IsLinked (f : Frame) (v : Volume) (links : Addr → List Link) (a d : Addr) (l : Link) : Type 0 where
  pub holder : found (setting_of f v) (tree_of f v) d ≡ true
  pub among : Contains (links d) l
  pub leads : target_of l.says ≡ a

-- one link at most leads to the address
abbrev pub IsLinkedOnce : Frame → Volume → (Addr → List Link) → Addr → Type 0
IsLinkedOnce f v links a = (d e : Addr) (l m : Link) → IsLinked f v links a d l → IsLinked f v links a e m → (d ≡ e) × (l ≡ m)

abbrev pub IsUnlinked : Frame → Volume → (Addr → List Link) → Addr → Type 0
IsUnlinked f v links a = (d : Addr) (l : Link) → IsLinked f v links a d l → ⊥

-- no damage touches the entry at an address
pub record IsIntactEntry (f : Frame) (v : Volume) (a : Addr) : Type 0 where
  pub entry : Entry
  pub reads : entry_at v a ≡ Some entry
  pub is_found : found (setting_of f v) (tree_of f v) a ≡ true
  -- nothing of its list fails, and the list has the bytes of the information length (4/12.1, 4/14.9.10)
  pub good : is_good_for v a entry ≡ true
  pub reaches : entry.information ≤ good_length v a entry
  -- no block that it wants is fixed, or barred as the one behind the file set's extent, and no other entry wants it
  pub free : (i : Item) → IsWant (setting_of f v) (tree_of f v) a i → IsFree (setting_of f v) i
  pub alone : (other : Addr) (i j : Item) → IsWant (setting_of f v) (tree_of f v) a i → IsWant (setting_of f v) (tree_of f v) other j
      → j.at ≡ i.at → other ≡ a
  -- a directory has a parent FID (4/8.6)
  pub has_parent : is_directory entry ≡ true → list_any is_parent (fids_of (fids v.size (bytes_at v a entry))) ≡ true
  -- and is linked once, as contents are up to their good lengths, and as they are up to their kept lengths; the root is not
  pub linked_once : is_directory entry ≡ true → a ≢ f.root
      → IsLinkedOnce f v (whole_links (tree_of f v)) a × IsLinkedOnce f v (kept_links (setting_of f v) (tree_of f v)) a
  pub root_unlinked : a ≡ f.root
      → IsUnlinked f v (whole_links (tree_of f v)) a × IsUnlinked f v (kept_links (setting_of f v) (tree_of f v)) a
