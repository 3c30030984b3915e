-- What kept entries claim after their mends.
use Rattle.std.specs.Prelude.{◌≡◌, ℕ, ◌<◌, Bool, true, false, not, ◌&&◌, ◌||◌, is_some, List, ◌∷◌, Option, Some, None}
use Rattle.std.specs.List.{list_any}
use Rattle.udf_field.specs.declared.address.Addr.{Addr}
use Rattle.udf_file_model.specs.Address.{same_addr}
use Rattle.udf_file_model.specs.Cut.{cut_pieces}
use Rattle.udf_file_model.specs.Entry.{Entry, is_directory}
use Rattle.udf_file_model.specs.Listing.{Volume, addresses, is_placed}
use Rattle.udf_file_model.specs.Pieces.{Piece}
use Rattle.udf_claims.specs.Winner.{claimed}
use Rattle.udf_claims.specs.declared.run.Run.{Run}
use Rattle.udf_tree_model.specs.Claimed.{claims, is_free}
use Rattle.udf_tree_model.specs.Frame.{Frame, entry_at, is_holder, setting_of, tree_of}
use Rattle.udf_tree_model.specs.Kept.{kept}
use Rattle.udf_contents.specs.declared.contents.MendedContent.{MendedContent}
use Rattle.udf_held.specs.declared.held.Held.{Held}
use Rattle.udf_kept.specs.declared.keeping.Keeping.{Keeping}
use Rattle.udf_found.specs.declared.shape.Shape.{Shape}
use Rattle.udf_contents.specs.Contents.{IsContent, IsContentOf}
use Rattle.udf_held.specs.Held.{IsHeld, IsHeldOf}
use Rattle.udf_found.specs.Shape.{IsShape}

-- the claims have exactly the placed addresses that are not free
pub record TellsTaken (f : Frame) (v : Volume) (rs : List Run) : Type 0 where
  pub each : (x : Addr) → is_placed v x ≡ true → claimed rs x ≡ not (is_free f v x)

-- the entry at an address is kept, and claims another
abbrev pub claims_kept : Frame → Volume → Addr → Addr → Bool
claims_kept f v a x = kept (setting_of f v) (tree_of f v) a && claims f v a x

-- one of the entries is kept, and claims the address
abbrev pub some_claims : Frame → Volume → List Held → Addr → Bool
some_claims f v hs x = list_any (λ h. claims_kept f v h.at x) hs

-- the address is one of a list
abbrev pub has_address : ℕ → List Piece → Addr → Bool
has_address size ps x = list_any (same_addr x) (addresses size ps)

-- where each part has this many blocks, an address is claimed that was before, or passes the test
pub record Adds (blocks : ℕ → ℕ) (old new : List Run) (test : Addr → Bool) : Type 0 where
  pub each : (x : Addr) → x.block < blocks x.part → claimed new x ≡ (claimed old x || test x)

-- the claims of a piece are added, or of its front, and what is to come of a list cut to so many bytes is what comes after it
pub record AddsPiece (blocks : ℕ → ℕ) (size : ℕ) (old new : List Run) (left after : ℕ) (p : Piece) : Type 0 where
  pub each : (rest : List Piece) (x : Addr) → x.block < blocks x.part
      → (claimed new x || has_address size (cut_pieces after rest) x) ≡ (claimed old x || has_address size (cut_pieces left (p ∷ rest)) x)

-- a held entry with a shape, and what is written in place of its content
pub record IsMending (f : Frame) (v : Volume) (h : Held) (e : Entry) (s : Shape) (c : Option MendedContent) : Type 0 where
  pub held : IsHeld (setting_of f v) (tree_of f v) h
  pub there : entry_at v h.at ≡ Some e
  pub other : is_holder f v h.at ≡ false
  pub shape : IsShape v h.at e s
  pub of_directory : is_directory e ≡ true → IsContentOf f v h c
  pub of_file : is_directory e ≡ false → c ≡ None

-- what is told of a held entry: what it is, whether it is kept, and what is written in place of its content
pub record IsTold (f : Frame) (v : Volume) (h : Held) (k : Option Keeping) (c : Option MendedContent) : Type 0 where
  pub held : IsHeld (setting_of f v) (tree_of f v) h
  pub held_of : IsHeldOf f v h
  pub kept_is : is_some k ≡ kept (setting_of f v) (tree_of f v) h.at
  pub content : IsContent f v h k c
