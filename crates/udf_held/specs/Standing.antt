-- How found entries stand.
use Rattle.std.specs.Prelude.{◌≡◌, ℕ, ◌<◌, Bool, false, not, ◌&&◌, ◌||◌, List, [], ◌∷◌, Option, Some, None}
use Rattle.std.specs.List.{list_all}
use Rattle.udf_field.specs.declared.address.Addr.{Addr}
use Rattle.udf_file_model.specs.Address.{same_addr}
use Rattle.udf_file_model.specs.Pieces.{Piece, Extent, Blocks}
use Rattle.udf_claims.specs.Winner as claims
use Rattle.udf_claims.specs.declared.run.Run.{Run}
use Rattle.udf_tree_model.specs.Among.{Member}
use Rattle.udf_tree_model.specs.Node.{Item, Setting, Tree, node_at}
use Rattle.udf_tree_model.specs.Won.{bytes_before, holds, kept_length, sound}
use Rattle.udf_tree_model.specs.Frame.{extent_item, run_items}
use Rattle.udf_found.specs.declared.arena.Found.{Found}
use Rattle.udf_held.specs.declared.standing.Front.{Front}
use Rattle.udf_held.specs.declared.standing.Standing.{Standing}

-- the item takes no block, or the owner wins it by these claims
abbrev pub stands : List Run → ℕ → Item → Bool
stands rs owner i = not i.takes || (not i.barred && claims.wins rs owner i.at)

-- the address is that one, where there is one
abbrev pub is_bar : Option Addr → Addr → Bool
is_bar None x = false
is_bar (Some bar) x = same_addr x bar

-- the items of one piece of a list
abbrev pub piece_items : ℕ → ℕ → ℕ → (Addr → Bool) → Piece → List Item
piece_items size extents blocks barred (Extent x) = extent_item extents x ∷ []
piece_items size extents blocks barred (Blocks d) = run_items size blocks barred d

-- each address stands below the number of blocks of its part
pub record AreBelow (blocks : ℕ → ℕ) (xs : List Addr) : Type 0 where
  pub low : (x : Addr) → Member x xs → x.block < blocks x.part

-- the bytes before the first item that fails, and whether none does
pub record IsFront (p : Item → Bool) (items : List Item) (front : Front) : Type 0 where
  pub bytes : front.bytes ≡ bytes_before p items
  pub whole : front.whole ≡ list_all p items

-- the kept length of an entry, whether it wins its whole list, and whether it is sound
pub record IsStanding (s : Setting) (t : Tree) (a : Addr) (x : Standing) : Type 0 where
  pub kept : x.kept ≡ kept_length s t a
  pub whole : x.whole ≡ list_all (holds s t a) (node_at t a).list
  pub sound_is : x.sound ≡ sound s t a

-- of each found entry, in order
abbrev pub AreStanding : Setting → Tree → List Found → List Standing → Type 0
AreStanding s t [] [] = Unit {0}
AreStanding s t [] (x ∷ xs) = ⊥
AreStanding s t (n ∷ ns) [] = ⊥
AreStanding s t (n ∷ ns) (x ∷ xs) = IsStanding s t n.at x × AreStanding s t ns xs
