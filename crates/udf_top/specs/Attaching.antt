-- What a repair asks of its bench.
use Rattle.std.specs.Prelude.{◌≡◌, ◌⊎◌, true, false, List, ℕ, Some, IfSome}
use Rattle.udf_outside.specs.declared.bench.Access.TheVariants.{Read, Write, Create}
use Rattle.udf_outside.specs.Files.{Files}
use Rattle.udf_top.specs.Words.{Repair}
use Rattle.udf_top.specs.declared.outcome.Outcome.{Outcome}
use Rattle.udf_top.specs.declared.outcome.Outcome.TheVariants as outcome

-- the image was attached, and then the side file asked for by this name, to be made where it is missing; or nothing was asked
-- of it, where the image could not be attached
abbrev pub WasAsked : List ℕ → Files → Files → Type 0
WasAsked name old new =
    ((new.image.attached ≡ false) × (new.side ≡ old.side))
    ⊎ ((new.image.attached ≡ true) × ((new.side.asked ≡ Some Create) × IfSome new.side.name (λ told. told ≡ name)))

-- A repair asked for the image by its name, for writing, and then for the side file; or, for want of memory, for nothing.
abbrev pub AsksFor : Repair → Outcome → Files → Files → Type 0
AsksFor repair result old new =
    ((result ≡ outcome.Memory) × (new ≡ old))
    ⊎ ((new.image.asked ≡ Some Write) × (IfSome new.image.name (λ told. told ≡ repair.medium) × WasAsked repair.side old new))

-- A check asked for the image alone, by its name, for reading; or, for want of memory, for nothing.
abbrev pub AsksToCheck : List ℕ → Outcome → Files → Files → Type 0
AsksToCheck medium result old new =
    ((result ≡ outcome.Memory) × (new ≡ old))
    ⊎ ((new.image.asked ≡ Some Read) × (IfSome new.image.name (λ told. told ≡ medium) × (new.side ≡ old.side)))

-- nothing was asked for, and only the size of the side file may differ
pub record KeepsAsked (old new : Files) : Type 0 where
  pub image : new.image ≡ old.image
  pub asked : new.side.asked ≡ old.side.asked
  pub name : new.side.name ≡ old.side.name
