-- What the laws say of trees.
use Rattle.std.specs.Prelude.{◌≡◌, ◌⊎◌, ℕ, true, Contains}
use Rattle.udf_field.specs.declared.address.Addr.{Addr}
use Rattle.udf_tree_model.specs.Link.{Link, target_of}
use Rattle.udf_tree_model.specs.Node.{Item, Tree, Setting, readable, node_at}
use Rattle.udf_tree_model.specs.Found.{found, whole_links, level}
use Rattle.udf_tree_model.specs.Won.{IsWant, kept_length, sound, wins}
use Rattle.udf_tree_model.specs.Chosen.{chosen, named, fitted}
use Rattle.udf_tree_model.specs.Kept.{kept, depth}

-- each readable entry stands at one of the places
pub record IsWithin (s : Setting) (t : Tree) : Type 0 where
  pub among : (a : Addr) → readable t a ≡ true → Contains s.places a

-- two items want one address in one way
pub record SameWant (i j : Item) : Type 0 where
  pub address : i.at ≡ j.at
  pub takes : i.takes ≡ j.takes
  pub class : i.class ≡ j.class
  pub barred : i.barred ≡ j.barred

-- from one tree to another wants may fall away, and none comes
pub record FallAway (s : Setting) (t u : Tree) : Type 0 where
  pub each : (owner : Addr) (j : Item) → IsWant s u owner j → (i : Item) × SameWant j i × IsWant s t owner i

-- of one entry a place names one link
pub record PlacesDiffer (t : Tree) : Type 0 where
  pub one : (d : Addr) (limit : ℕ) (f g : Link) → Contains ((node_at t d).links limit) f → Contains ((node_at t d).links limit) g
      → f.place ≡ g.place → f ≡ g

-- each start is a sound directory
pub record HasSoundStarts (s : Setting) (t : Tree) : Type 0 where
  pub starts : (a : Addr) → s.start a ≡ true → sound s t a ≡ true
  pub directories : (a : Addr) → s.start a ≡ true → (node_at t a).directory ≡ true

-- a link that may be the chosen one to an address: a named one of a sound entry
pub record IsOffer (s : Setting) (t : Tree) (a d : Addr) (f : Link) : Type 0 where
  pub holder : sound s t d ≡ true
  pub among : Contains (named s t d) f
  pub leads : target_of f.says ≡ a

-- a fitted link of a kept entry
pub record KeepsBy (s : Setting) (t : Tree) (a d : Addr) (f : Link) : Type 0 where
  pub holder : kept s t d ≡ true
  pub among : Contains (fitted s t d) f
  pub leads : target_of f.says ≡ a

-- an address at which an entry is sought: a start, or the target of a link of what is found
abbrev pub IsSought : Setting → Tree → Addr → Type 0
IsSought s t a = (s.start a ≡ true) ⊎ ((d : Addr) × (f : Link) × (found s t d ≡ true) × Contains (whole_links t d) f × (target_of f.says ≡ a))

-- another tree has the same entries where those of this one are sought
pub record SameSought (s : Setting) (t u : Tree) : Type 0 where
  pub same : (a : Addr) → IsSought s t a → u a ≡ t a

-- all that is told of what is found and kept is the same
pub record SameSurvey (s : Setting) (t u : Tree) : Type 0 where
  pub found_same : (a : Addr) → found s u a ≡ found s t a
  pub levels : (a : Addr) → level s u a ≡ level s t a
  pub nodes : (a : Addr) → found s t a ≡ true → u a ≡ t a
  pub winners : (a : Addr) (i : Item) → wins s u a i ≡ wins s t a i
  pub lengths : (a : Addr) → found s t a ≡ true → kept_length s u a ≡ kept_length s t a
  pub sound_same : (a : Addr) → sound s u a ≡ sound s t a
  pub choices : (a : Addr) → chosen s u a ≡ chosen s t a
  pub fitted_same : (a : Addr) → found s t a ≡ true → fitted s u a ≡ fitted s t a
  pub kept_same : (a : Addr) → kept s u a ≡ kept s t a
  pub depths : (a : Addr) → depth s u a ≡ depth s t a
