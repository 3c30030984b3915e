-- A bench over real files as its callers see it: it tells no name and no bytes.
use Rattle.std.specs.Prelude.{◌≡◌, ℕ, ◌≤◌, max, Bool, false, Option, None, Result, OnOk}
use Rattle.udf_outside.specs.Files.{File, Files}
use Rattle.udf_outside.specs.declared.bench.Access.{Access}

-- what was asked of its files and their sizes, and how many calls failed
pub record Attached : Type 0 where
  pub files : Files
  pub faults : ℕ

-- a file of which this was asked, of this size
abbrev pub real_file : Option Access → Bool → ℕ → File
real_file asked attached size = record { asked = asked; name = None; attached = attached; size = size }

abbrev pub nothing_attached : Attached
nothing_attached = record {
  files = record { image = real_file None false 0; side = real_file None false 0 };
  faults = 0;
}

-- only the size of a file changes: to the greater of the old one and the end of the range, or after a failure to one between
pub record Grows {T E : Type 0} (end : ℕ) (old new : File) (result : Result T E) : Type 0 where
  pub only : new ≡ record old { size = new.size }
  pub done : OnOk result (new.size ≡ max old.size end)
  pub no_smaller : old.size ≤ new.size
  pub no_larger : new.size ≤ max old.size end
