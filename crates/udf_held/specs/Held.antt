-- What found entries keep.
use Rattle.std.specs.Prelude.{◌≡◌, ℕ, true, false, is_some, List, map, Some}
use Rattle.udf_field.specs.declared.address.Addr.{Addr}
use Rattle.udf_file_model.specs.Entry.{Entry}
use Rattle.std.specs.List.{list_all}
use Rattle.udf_file_model.specs.Listing.{Volume}
use Rattle.udf_file_model.specs.Scan.{fids, fids_of}
use Rattle.udf_tree_model.specs.Among.{Member}
use Rattle.udf_tree_model.specs.Node.{Setting, Tree, node_at}
use Rattle.udf_tree_model.specs.Frame.{Frame, entry_at, is_holder, links_of, parent_length, setting_of, tree_of}
use Rattle.udf_tree_model.specs.Content.{kept_content}
use Rattle.udf_tree_model.specs.Won.{holds, kept_length, kept_links, sound}
use Rattle.udf_held.specs.declared.held.Held.{Held}
use Rattle.udf_found.specs.declared.link.Link.{Link}
use Rattle.udf_found.specs.declared.parents.ParentFids.{ParentFids}
use Rattle.udf_found.specs.Linked.{AreLinks}
use Rattle.udf_found.specs.Parents.{only_parent}
use Rattle.udf_found.specs.Shape.{IsShape, IsShaped}
use Rattle.udf_held.specs.Standing.{IsStanding}
use Rattle.udf_found.specs.Target.{linking}
use Rattle.udf_found.specs.declared.shape.Shape.{Shape}
use Rattle.udf_held.specs.declared.standing.Standing.{Standing}
use Rattle.udf_found.specs.Spot.{IsFoundList, Spot, spot}

-- an entry with what the definitions tell of it
pub record IsHeld (s : Setting) (t : Tree) (h : Held) : Type 0 where
  pub start : h.is_start ≡ s.start h.at
  pub directory : h.directory ≡ (node_at t h.at).directory
  pub sound_is : h.sound ≡ sound s t h.at
  pub kept_is : h.kept ≡ kept_length s t h.at
  pub whole : h.whole ≡ list_all (holds s t h.at) (node_at t h.at).list
  pub space : h.sound ≡ true → h.space ≡ (node_at t h.at).space (kept_length s t h.at)
  pub links : h.sound ≡ true → AreLinks (kept_links s t h.at) h.links.items

abbrev pub held_spots : List Held → List Spot
held_spots hs = map (λ h. spot h.at h.level) hs

-- the found entries, each once and with its level, in the order of levels
pub record AreHeld (s : Setting) (t : Tree) (hs : List Held) : Type 0 where
  pub listed : IsFoundList s t (held_spots hs)
  pub each : (h : Held) → Member h hs → IsHeld s t h

-- an entry of a volume, with what its block states and what the parent FIDs of its kept content tell
pub record IsHeldOf (f : Frame) (v : Volume) (h : Held) : Type 0 where
  pub shape : IsShaped f v h.at h.shape
  pub parent_bytes : h.sound ≡ true → is_some h.shape ≡ true → h.parents.bytes ≡ parent_length (fids_of (fids v.size (kept_content f v h.at)))
  pub parent : h.sound ≡ true → is_some h.shape ≡ true → h.parents.only ≡ only_parent v.size (kept_content f v h.at)

pub record AreHeldOf (f : Frame) (v : Volume) (hs : List Held) : Type 0 where
  pub held : AreHeld (setting_of f v) (tree_of f v) hs
  pub each_of : (h : Held) → Member h hs → IsHeldOf f v h

-- what a content tells of the links of its entry and of its parent FIDs
pub record TellsContent (size : ℕ) (e : Entry) (content : List ℕ) (ls : List Link) (p : ParentFids) : Type 0 where
  pub links : AreLinks (links_of size e content) ls
  pub bytes : p.bytes ≡ parent_length (fids_of (fids size content))
  pub only : p.only ≡ only_parent size content

-- at an address with a level, an entry is held
pub record HoldsAt (f : Frame) (v : Volume) (a : Addr) (level : ℕ) (h : Held) : Type 0 where
  pub at_is : h.at ≡ a
  pub level_is : h.level ≡ level
  pub held : IsHeld (setting_of f v) (tree_of f v) h
  pub held_of : IsHeldOf f v h

-- a found entry is not the holder of the pointer to the system stream directory, and has this shape, these links and this standing
pub record IsEntry (f : Frame) (v : Volume) (a : Addr) (e : Entry) (shape : Shape) (ls : List Link) (x : Standing) : Type 0 where
  pub entry : entry_at v a ≡ Some e
  pub other : is_holder f v a ≡ false
  pub shape_is : IsShape v a e shape
  pub links : AreLinks (links_of v.size e (linking v a e)) ls
  pub standing : IsStanding (setting_of f v) (tree_of f v) a x
