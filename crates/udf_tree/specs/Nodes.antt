-- Kept entries by their numbers.
use Rattle.std.specs.Prelude.{◌≡◌, ℕ, Bool, true, false, ◌&&◌, cond, is_some, get_or, slice_get, List, [], ◌∷◌, map, Option, Some, None}
use Rattle.std.specs.List.{list_any, list_all}
use Rattle.udf_field.specs.declared.address.Addr.{Addr}
use Rattle.udf_file_model.specs.Address.{same_addr}
use Rattle.udf_file_model.specs.Entry.{Entry}
use Rattle.udf_file_model.specs.Listing.{Volume, is_good_for}
use Rattle.udf_tree_model.specs.Among.{Member}
use Rattle.udf_tree_model.specs.Counts.{wanted_id, wanted_links}
use Rattle.udf_tree_model.specs.Found.{level}
use Rattle.udf_tree_model.specs.Frame.{Frame, entry_at, setting_of, tree_of}
use Rattle.udf_tree_model.specs.Node.{node_at}
use Rattle.udf_tree_model.specs.Ordinary.{is_kept_entry}
use Rattle.udf_tree_model.specs.Parent.{ordinary, parent}
use Rattle.udf_tree_model.specs.Refused.{refusal}
use Rattle.udf_tree_model.specs.Stated.{IsFileSetPlaced}
use Rattle.udf_tree_model.specs.Won.{holds, kept_length}
use Rattle.udf_kept.specs.declared.entries.Entries.{Entries}
use Rattle.udf_held.specs.declared.held.Held.{Held}
use Rattle.udf_kept.specs.declared.keeping.Keeping.{Keeping}
use Rattle.udf_tree.specs.declared.node.Node.{Node}
use Rattle.udf_tree.specs.declared.node.NodeId.{NodeId}
use Rattle.udf_found.specs.Beyond.{HoldsFileSet}
use Rattle.udf_kept.specs.Entries.{AreEntries}

abbrev pub is_whole_by : Frame → Volume → Addr → Option Entry → Bool
is_whole_by f v a None = false
is_whole_by f v a (Some e) = is_good_for v a e && list_all (holds (setting_of f v) (tree_of f v) a) (node_at (tree_of f v) a).list

-- nothing of its list fails, and it wins all of it
unfoldable pub is_whole : Frame → Volume → Addr → Bool
is_whole f v a = is_whole_by f v a (entry_at v a)

-- a node of a kept entry, where numbers name these addresses
pub record IsNode (f : Frame) (v : Volume) (numbers : List Addr) (n : Node) : Type 0 where
  pub kept_is : is_kept_entry f v n.at ≡ true
  pub level_is : n.level ≡ level (setting_of f v) (tree_of f v) n.at
  pub directory_is : n.directory ≡ (node_at (tree_of f v) n.at).directory
  pub kept_length_is : n.kept_length ≡ kept_length (setting_of f v) (tree_of f v) n.at
  pub whole_is : n.whole ≡ is_whole f v n.at
  pub links_are : n.links ≡ wanted_links f v n.at
  pub id_is : n.id ≡ wanted_id f v n.at
  pub parent_is : slice_get numbers n.parent.0 ≡ Some (parent f v n.at)
  pub ordinary_is : n.ordinary ≡ ordinary f v n.at

abbrev pub node_addresses : List Node → List Addr
node_addresses ns = map (λ n. n.at) ns

-- no address stands twice
abbrev pub StandOnce : List Addr → Type 0
StandOnce [] = Unit {0}
StandOnce (a ∷ rest) = (list_any (same_addr a) rest ≡ false) × StandOnce rest

-- the nodes of all kept entries, each once
pub record AreNodes (f : Frame) (v : Volume) (ns : List Node) : Type 0 where
  pub each : (n : Node) → Member n ns → IsNode f v (node_addresses ns) n
  pub all : (a : Addr) → list_any (same_addr a) (node_addresses ns) ≡ is_kept_entry f v a
  pub once : StandOnce (node_addresses ns)

-- a held entry is to have a number
abbrev pub is_numbered : Held → Option Keeping → Bool
is_numbered h k = is_some k && is_some h.shape

-- the addresses of these entries, in order
abbrev pub numbered : List (Option Keeping) → List Held → List Addr
numbered [] hs = []
numbered (k ∷ ks) [] = []
numbered (k ∷ ks) (h ∷ hs) = cond (is_numbered h k) (h.at ∷ numbered ks hs) (numbered ks hs)

-- the address of an entry that is to have a number
abbrev pub numbered_at : Held → Option Keeping → Option Addr
numbered_at h k = cond (is_numbered h k) (Some h.at) None

abbrev pub node_address : Option Node → Option Addr
node_address None = None
node_address (Some n) = Some n.at

-- each address has the number of a place where it stands, and none that stands there is without
pub record IsNumbering (numbers : List Addr) (number : Addr → Option NodeId) : Type 0 where
  pub there : (a : Addr) (n : NodeId) → number a ≡ Some n → slice_get numbers n.0 ≡ Some a
  pub all : (a : Addr) → number a ≡ None → Member a numbers → ⊥

-- of each held entry that is to have a number, what is wanted of it stands at its index
pub record AreWanted (wanted : Addr → ℕ) (ks : List (Option Keeping)) (hs : List Held) (xs : List ℕ) : Type 0 where
  pub each : (i : ℕ) (h : Held) → slice_get hs i ≡ Some h → is_numbered h (get_or ks i None) ≡ true → get_or xs i 0 ≡ wanted h.at

-- the files of an accepted volume: what is found and kept of them, and the wanted link counts and identifiers
pub record AreSurveyed (f : Frame) (v : Volume) (root file_set : Addr) (e : Entries) (links ids : List ℕ) : Type 0 where
  pub root_is : f.root ≡ root
  pub file_set_is : f.file_set ≡ file_set
  pub set : HoldsFileSet f v
  pub placed : IsFileSetPlaced f v
  pub accepted : refusal f v ≡ None
  pub entries : AreEntries f v e
  pub links_are : AreWanted (wanted_links f v) e.kept.items e.held.items links
  pub ids_are : AreWanted (wanted_id f v) e.kept.items e.held.items ids
