-- What claims tell of who owns a block.
use Rattle.std.specs.Prelude.{◌≡◌, ◌↔◌, true, false, List}
use Rattle.udf_field.specs.declared.address.Addr.{Addr}
use Rattle.udf_claims.specs.Winner.{number}
use Rattle.udf_claims.specs.Winner as claims
use Rattle.udf_claims.specs.declared.run.Run.{Run}
use Rattle.udf_tree_model.specs.Node.{Item, Setting, Tree}
use Rattle.udf_tree_model.specs.Won.{IsWant, wins}
use Rattle.udf_tree_model.specs.Frame.{Frame}
use Rattle.udf_volume.specs.Fixed.{stretches_over}
use Rattle.udf_volume.specs.declared.stretch.Stretch.{Stretch}

-- the root and the fixed addresses are those of a frame
pub record IsFramed (f : Frame) (root : Addr) (fixed : List Stretch) : Type 0 where
  pub root_is : f.root ≡ root
  pub fixed_are : (a : Addr) → f.fixed a ≡ stretches_over fixed a

-- a found entry wins what it wants exactly where nothing bars it and the claims have the entry for the winner of the address
pub record TellsWinners (s : Setting) (t : Tree) (rs : List Run) : Type 0 where
  pub each : (a : Addr) (i : Item) → IsWant s t a i
      → (wins s t a i ≡ true) ↔ ((i.barred ≡ false) × (claims.wins rs (number a) i.at ≡ true))
