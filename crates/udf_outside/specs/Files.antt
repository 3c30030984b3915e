-- What was asked of the two files of a bench, and their sizes.
use Rattle.std.specs.Prelude.{◌≡◌, ℕ, Bool, Option, Some, None, List, ◌≤◌, max, Result, OnOk, IfSome, IsTrue}
use Rattle.udf_outside.specs.declared.bench.Role.{Role}
use Rattle.udf_outside.specs.declared.bench.Role.TheVariants.{Image, Side}
use Rattle.udf_outside.specs.declared.bench.Access.{Access}
use Rattle.udf_outside.specs.declared.bench.Access.TheVariants.{Read, Write, Create}

-- One file: the access that was asked for, the name where it is told, whether it is attached, and its size.
pub record File : Type 0 where
  pub asked : Option Access
  pub name : Option (List ℕ)
  pub attached : Bool
  pub size : ℕ

pub record Files : Type 0 where
  pub image : File
  pub side : File

abbrev pub file_of : Role → Files → File
file_of Image files = files.image
file_of Side files = files.side

abbrev pub other : Role → Role
other Image = Side
other Side = Image

abbrev pub allows_writing : Option Access → Type 0
allows_writing None = ⊥
allows_writing (Some Read) = ⊥
allows_writing (Some Write) = Unit {0}
allows_writing (Some Create) = Unit {0}

abbrev pub IsAttached : Role → Files → Type 0
IsAttached role files = IsTrue (file_of role files).attached

-- attached with Write or Create
abbrev pub IsWritable : Role → Files → Type 0
IsWritable role files = IsAttached role files × allows_writing (file_of role files).asked

-- the role was asked for by this name and access, and the other file is as it was
pub record Attaches (role : Role) (name : List ℕ) (access : Access) (answer : Bool) (old new : Files) : Type 0 where
  pub asked : (file_of role new).asked ≡ Some access
  pub named : IfSome (file_of role new).name (λ told. told ≡ name)
  pub attached : (file_of role new).attached ≡ answer
  pub rest : file_of (other role) new ≡ file_of (other role) old

abbrev pub resized : Role → ℕ → Files → Files
resized Image size files = record files { image = record files.image { size = size } }
resized Side size files = record files { side = record files.side { size = size } }

-- only the size of the role changes: to the greater of the old one and the end of the range, or after a failure to one between
pub record Resizes {T E : Type 0} (role : Role) (end : ℕ) (old new : Files) (result : Result T E) : Type 0 where
  pub only : new ≡ resized role (file_of role new).size old
  pub done : OnOk result ((file_of role new).size ≡ max (file_of role old).size end)
  pub no_smaller : (file_of role old).size ≤ (file_of role new).size
  pub no_larger : (file_of role new).size ≤ max (file_of role old).size end
