-- Which contents of kept directories need no mend, told by what is kept of entries.
use Rattle.std.specs.Prelude.{◌≡◌, ℕ, Bool, true, false, not, ◌&&◌, ◌||◌, is_some, nat_eq, List, [], ◌∷◌, Option, Some, None}
use Rattle.udf_field.specs.declared.address.Addr.{Addr}
use Rattle.udf_file_model.specs.Address.{same_addr}
use Rattle.udf_file_model.specs.Listing.{Volume}
use Rattle.udf_tree_model.specs.Chosen.{chosen}
use Rattle.udf_tree_model.specs.Content.{content_stays}
use Rattle.udf_tree_model.specs.Frame.{Frame, setting_of, tree_of}
use Rattle.udf_tree_model.specs.Kept.{kept}
use Rattle.udf_tree_model.specs.Laws.{HasSoundStarts}
use Rattle.udf_tree_model.specs.Node.{Setting, Tree, is_entry, node_at}
use Rattle.udf_tree_model.specs.Parent.{parent}
use Rattle.udf_tree_model.specs.Won.{sound}
use Rattle.udf_kept.specs.declared.fitted.Choice.{Choice}
use Rattle.udf_kept.specs.declared.fitted.Fitted.{Fitted}
use Rattle.udf_kept.specs.declared.fitted.Selected.{Selected}
use Rattle.udf_held.specs.declared.held.Held.{Held}
use Rattle.udf_kept.specs.declared.keeping.Keeping.{Keeping}
use Rattle.udf_found.specs.declared.link.Link.{Link}
use Rattle.udf_kept.specs.Fitted.{AreSelected}
use Rattle.udf_held.specs.Held.{AreHeldOf}
use Rattle.udf_kept.specs.Keeping.{AreKept}
use Rattle.udf_found.specs.Linked.{is_first}
use Rattle.udf_kept.specs.Selects.{is_rank_at}

-- what is told of found entries and of their links
pub record Tells (f : Frame) (v : Volume) (hs : List Held) (xs : List Selected) : Type 0 where
  pub held : AreHeldOf f v hs
  pub selected : AreSelected (setting_of f v) (tree_of f v) hs xs

-- and what is told of which of them are kept, where the search begins at these addresses
pub record Surveys (f : Frame) (v : Volume) (root file_set : Addr) (hs : List Held) (xs : List Selected) (ks : List (Option Keeping)) : Type 0 where
  pub root_is : f.root ≡ root
  pub file_set_is : f.file_set ≡ file_set
  pub tells : Tells f v hs xs
  pub kept_are : AreKept (setting_of f v) (tree_of f v) hs ks
  pub sound_starts : HasSoundStarts (setting_of f v) (tree_of f v)

-- what a FID of a holder names is a sound entry and, if it is a directory, no start and the FID is the chosen link to it
unfoldable pub target_holds : Setting → Tree → Addr → ℕ → Addr → Bool
target_holds s t d place a =
    (sound s t a && is_entry s t a) && (not (node_at t a).directory || (not (s.start a) && is_rank_at d place (chosen s t a)))

-- a link of a holder is a pointer, or the first of its name with such a target
abbrev pub link_holds : Setting → Tree → Addr → Link → Bool
link_holds s t d l = nat_eq l.place 0 || (is_first l && target_holds s t d l.place l.target)

-- the chosen link to an entry
abbrev pub choice_by : Option Selected → Option Choice
choice_by None = None
choice_by (Some x) = x.chosen

-- the fitted links of an entry
abbrev pub fitted_by : Option Selected → List Fitted
fitted_by None = []
fitted_by (Some x) = x.fitted.items

-- the one parent FID of a content names the parent, unless the directory is a stream directory
abbrev pub names_parent : Bool → Addr → Option Addr → Bool
names_parent stream above None = false
names_parent stream above (Some a) = stream || same_addr a above

-- a kept directory needs a content anew, under this parent
pub record NeedsMend (f : Frame) (v : Volume) (h : Held) (above : Addr) : Type 0 where
  pub kept_is : kept (setting_of f v) (tree_of f v) h.at ≡ true
  pub directory_is : h.directory ≡ true
  pub shaped : is_some h.shape ≡ true
  pub broken : content_stays f v h.at ≡ false
  pub under : above ≡ parent f v h.at

abbrev pub IsMendOf : Frame → Volume → Held → Option Addr → Type 0
IsMendOf f v h None = content_stays f v h.at ≡ true
IsMendOf f v h (Some above) = NeedsMend f v h above

-- the parent of a kept directory whose content is to be written anew; none of another entry
pub record IsMend (f : Frame) (v : Volume) (h : Held) (k : Option Keeping) (m : Option Addr) : Type 0 where
  pub of_kept : (is_some k && (h.directory && is_some h.shape)) ≡ true → IsMendOf f v h m
  pub of_other : (is_some k && (h.directory && is_some h.shape)) ≡ false → m ≡ None

-- what is told of an entry, where anything is
abbrev pub mend_by : Option (Option Addr) → Option Addr
mend_by None = None
mend_by (Some m) = m

abbrev pub AreMends : Frame → Volume → List Held → List (Option Keeping) → List (Option Addr) → Type 0
AreMends f v [] ks ms = Unit {0}
AreMends f v (h ∷ hs) [] ms = ⊥
AreMends f v (h ∷ hs) (k ∷ ks) [] = ⊥
AreMends f v (h ∷ hs) (k ∷ ks) (m ∷ ms) = IsMend f v h k m × AreMends f v hs ks ms
