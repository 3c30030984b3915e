-- Paths that no damage touches.
use Rattle.std.specs.Prelude.{◌≡◌, ℕ, ◌≤◌, true, false, cond, List, [], ◌∷◌, Option, Some, None, Contains}
use Rattle.std.specs.Str.{bytes_eq}
use Rattle.udf_field.specs.declared.address.Addr.{Addr}
use Rattle.udf_tree_model.specs.Link.{Link, target_of, name_of, is_pointer}
use Rattle.udf_tree_model.specs.Node.{Item, Tree, Setting, node_at, good_length}
use Rattle.udf_tree_model.specs.Found.{whole_links, found}
use Rattle.udf_tree_model.specs.Won.{IsWant, IsFree, kept_links}
use Rattle.udf_tree_model.specs.Kept.{kept}
use Rattle.udf_tree_model.specs.Mended.{rooms}

-- the first link of a name
unfoldable pub look_up : List ℕ → List Link → Option Link
look_up name [] = None
look_up name (f ∷ fs) = cond (bytes_eq (name_of f.says) name) (Some f) (look_up name fs)

abbrev pub then_at : Option Link → (Addr → Option Addr) → Option Addr
then_at None on = None
then_at (Some f) on = on (target_of f.says)

-- where a path of names leads; the name of pointers is a step to a stream directory
unfoldable pub follow : Tree → List (List ℕ) → Addr → Option Addr
follow t [] a = Some a
follow t (name ∷ names) a = then_at (look_up name (whole_links t a)) (follow t names)

-- no damage touches the entry: nothing keeps it from what it wants, its links have room, and if it is a directory it is long
-- enough and one link leads to it, or none if it is a start
pub record IsIntact (s : Setting) (t : Tree) (a : Addr) : Type 0 where
  pub is_found : found s t a ≡ true
  pub own_takes : (i : Item) → Contains (node_at t a).own i → i.takes ≡ true
  pub free : (i : Item) → IsWant s t a i → IsFree s i
  pub lowest : (i j : Item) → IsWant s t a i → IsWant s t a j → j.at ≡ i.at → i.class ≤ j.class
  pub alone : (other : Addr) (i j : Item) → IsWant s t a i → IsWant s t other j → j.at ≡ i.at → other ≡ a
  pub long_enough : (node_at t a).directory ≡ true → (node_at t a).enough (good_length t a) ≡ true
  pub has_space : rooms (whole_links t a) ≤ (node_at t a).space (good_length t a)
  pub one_link : (node_at t a).directory ≡ true → (d e : Addr) (f g : Link) → found s t d ≡ true → found s t e ≡ true
      → Contains (kept_links s t d) f → Contains (kept_links s t e) g → target_of f.says ≡ a → target_of g.says ≡ a
      → (d ≡ e) × (f.place ≡ g.place)
  pub no_link : s.start a ≡ true → (d : Addr) (f : Link) → found s t d ≡ true → Contains (kept_links s t d) f → target_of f.says ≡ a → ⊥

-- each entry on a path from an address is intact, and each name has its first link there; a pointer leads to a directory
abbrev pub IsIntactPath : Setting → Tree → Addr → List (List ℕ) → Type 0
IsIntactPath s t a [] = IsIntact s t a
IsIntactPath s t a (name ∷ names) =
    IsIntact s t a
    × ((f : Link) × (look_up name (whole_links t a) ≡ Some f)
    × ((node_at t (target_of f.says)).directory ≡ false → is_pointer f.says ≡ false)
    × IsIntactPath s t (target_of f.says) names)

-- the path leads to one kept entry in both trees, and no damage touches it
pub record LeadsAlike (s : Setting) (t u : Tree) (a : Addr) (names : List (List ℕ)) : Type 0 where
  pub to : Addr
  pub old : follow t names a ≡ Some to
  pub new : follow u names a ≡ Some to
  pub is_kept : kept s t to ≡ true
  pub is_intact : IsIntact s t to
