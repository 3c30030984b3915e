-- A tree that has each kept entry of another as its mend leaves it, and what such a tree is like.
use Rattle.std.specs.Prelude.{◌≡◌, ℕ, ◌+◌, ◌≤◌, true, List, [], ◌∷◌, map, Contains}
use Rattle.udf_field.specs.declared.address.Addr.{Addr}
use Rattle.udf_tree_model.specs.Link.{Link, Says, room_of}
use Rattle.udf_tree_model.specs.Node.{Item, Tree, Setting, readable, node_at, good_length}
use Rattle.udf_tree_model.specs.Found.{found, whole_links}
use Rattle.udf_tree_model.specs.Won.{wins, kept_length, sound, kept_links}
use Rattle.udf_tree_model.specs.Chosen.{selected, fitted}
use Rattle.udf_tree_model.specs.Kept.{kept}
use Rattle.udf_tree_model.specs.Rules.{targets_hold, names_hold}
use Rattle.udf_tree_model.specs.Laws.{IsWithin, PlacesDiffer, HasSoundStarts, SameWant}

-- what links say, wherever they stand
abbrev pub said : List Link → List Says
said links = map (λ f. f.says) links

-- the bytes that links take
abbrev pub rooms : List Link → ℕ
rooms [] = 0
rooms (f ∷ fs) = room_of f.says + rooms fs

-- u has the mended entry of t at a: it takes only blocks that the entry won, and its links are the fitted ones
pub record IsMendedAt (s : Setting) (t u : Tree) (a : Addr) : Type 0 where
  pub stays : readable u a ≡ true
  pub same_kind : (node_at u a).directory ≡ (node_at t a).directory
  pub same_own : (node_at u a).own ≡ (node_at t a).own
  pub won : (i : Item) → Contains (node_at u a).list i → i.takes ≡ true
      → (j : Item) × Contains (node_at t a).list j × SameWant i j × (wins s t a j ≡ true)
  pub same_links : said (whole_links u a) ≡ said (fitted s t a)
  pub has_space : rooms (whole_links u a) ≤ (node_at u a).space (good_length u a)
  pub long_enough : (node_at u a).directory ≡ true → (node_at u a).enough (good_length u a) ≡ true

-- u has each kept entry of t mended; what else stands there is free
pub record IsMended (s : Setting) (t u : Tree) : Type 0 where
  pub old_within : IsWithin s t
  pub old_places : PlacesDiffer t
  pub old_starts : HasSoundStarts s t
  pub new_within : IsWithin s u
  pub each : (a : Addr) → kept s t a ≡ true → IsMendedAt s t u a

-- what the mended tree u of t has at a kept entry
pub record IsSettledAt (s : Setting) (t u : Tree) (a : Addr) : Type 0 where
  pub is_sound : sound s u a ≡ true
  pub own_won : (i : Item) → Contains (node_at u a).own i → wins s u a i ≡ true
  pub all_won : (i : Item) → Contains (node_at u a).list i → i.takes ≡ true → wins s u a i ≡ true
  pub whole : kept_length s u a ≡ good_length u a
  pub all_selected : selected s u a ≡ kept_links s u a
  pub all_fitted : fitted s u a ≡ kept_links s u a
  pub links_same : said (fitted s u a) ≡ said (fitted s t a)
  pub targets : targets_hold s u a ≡ true
  pub names : names_hold s u a ≡ true

-- what is found in the mended tree is what was kept, and is kept there, as it stands
pub record IsSettled (s : Setting) (t u : Tree) : Type 0 where
  pub found_is_kept : (a : Addr) → found s u a ≡ kept s t a
  pub kept_is_kept : (a : Addr) → kept s u a ≡ kept s t a
  pub at_each : (a : Addr) → kept s t a ≡ true → IsSettledAt s t u a
