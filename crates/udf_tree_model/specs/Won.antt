-- Who owns a block: of those that want it, the one whose class is the least.
use Rattle.std.specs.Prelude.{◌≡◌, ℕ, ◌+◌, ◌<◌, ◌≤◌, ◌≢◌, Bool, true, false, not, ◌&&◌, ◌||◌, cond, nat_lt, nat_le, List, [], ◌∷◌, Contains}
use Rattle.std.specs.List.{list_all}
use Rattle.udf_field.specs.declared.address.Addr.{Addr}
use Rattle.udf_file_model.specs.Address.{same_addr}
use Rattle.udf_tree_model.specs.Link.{Link}
use Rattle.udf_tree_model.specs.Node.{Item, Tree, Setting, node_at, wants}
use Rattle.udf_tree_model.specs.Found.{found}

abbrev pub wants_same : Item → Item → Bool
wants_same i j = i.takes && same_addr i.at j.at

-- the want i of an entry is not beaten by the want j of another: j is of another address, or of a higher class; of its own
-- wants one of the same class does not beat it
unfoldable pub stands_against : Addr → Item → Addr → Item → Bool
stands_against a i other j =
    not (wants_same j i) || cond (same_addr other a) (nat_le i.class j.class) (nat_lt i.class j.class)

abbrev pub beaten_by_none : Setting → Tree → Addr → Item → Addr → Bool
beaten_by_none s t a i other = not (found s t other) || list_all (stands_against a i other) (wants t other)

-- a found entry wins what it wants where the address is not fixed, nothing bars it, and no found entry's want beats it
unfoldable pub wins : Setting → Tree → Addr → Item → Bool
wins s t a i = not (s.fixed i.at) && (not i.barred && list_all (beaten_by_none s t a i) s.places)

-- it takes no block, or wins it
unfoldable pub holds : Setting → Tree → Addr → Item → Bool
holds s t a i = not i.takes || wins s t a i

-- the bytes before the first item that fails
unfoldable pub bytes_before : (Item → Bool) → List Item → ℕ
bytes_before p [] = 0
bytes_before p (i ∷ is) = cond (p i) (i.bytes + bytes_before p is) 0

-- how many bytes of its content an entry keeps
unfoldable pub kept_length : Setting → Tree → Addr → ℕ
kept_length s t a = bytes_before (holds s t a) (node_at t a).list

-- it is found and wins its own block, and a directory keeps enough bytes
unfoldable pub sound : Setting → Tree → Addr → Bool
sound s t a =
    found s t a && (list_all (wins s t a) (node_at t a).own && (not (node_at t a).directory || (node_at t a).enough (kept_length s t a)))

-- the links of its content up to the kept length
unfoldable pub kept_links : Setting → Tree → Addr → List Link
kept_links s t a = (node_at t a).links (kept_length s t a)

-- found entries and what they want
pub record IsWant (s : Setting) (t : Tree) (owner : Addr) (i : Item) : Type 0 where
  pub found_owner : found s t owner ≡ true
  pub among : Contains (wants t owner) i
  pub takes : i.takes ≡ true

-- the want may be won: the address is not fixed, and nothing bars it
pub record IsFree (s : Setting) (i : Item) : Type 0 where
  pub not_fixed : s.fixed i.at ≡ false
  pub not_barred : i.barred ≡ false

-- no want of the address has a lower class, and no other entry has one of that class
pub record IsUnrivalled (s : Setting) (t : Tree) (owner : Addr) (i : Item) : Type 0 where
  pub lowest : (other : Addr) (j : Item) → IsWant s t other j → j.at ≡ i.at → i.class ≤ j.class
  pub alone : (other : Addr) (j : Item) → IsWant s t other j → j.at ≡ i.at → other ≢ owner → i.class < j.class
