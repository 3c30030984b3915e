-- Where entries stand in their list.
use Rattle.std.specs.Prelude.{◌≡◌, ℕ, List, Option, Some, None}
use Rattle.udf_field.specs.declared.address.Addr.{Addr}
use Rattle.udf_tree_model.specs.Among.{Member}
use Rattle.udf_held.specs.declared.held.Held.{Held}
use Rattle.udf_kept.specs.Fitted.{at_of}

-- each address of an entry has the position of one, and no other has one
pub record IsIndex (hs : List Held) (position : Addr → Option ℕ) : Type 0 where
  pub there : (a : Addr) (i : ℕ) → position a ≡ Some i → at_of hs i ≡ Some a
  pub all : (a : Addr) → position a ≡ None → (h : Held) → Member h hs → h.at ≡ a → ⊥
