-- What leads from an entry to another: the live FIDs of a directory's content (ECMA-167 4/14.4), and the pointers to the stream
-- directory of an entry (4/14.17.20) and to the system stream directory of the volume (4/14.1.18).
use Rattle.std.specs.Prelude.{ℕ, suc, Bool, true, false, List, [], length, ◌==◌, if◌then◌else◌, Option, Some, None, ◌∷◌, map}
use Rattle.std.specs.List.{filter}
use Rattle.udf_field.specs.declared.address.Addr.{Addr}
use Rattle.udf_field.specs.declared.address.Long.{Long}
use Rattle.udf_file_model.specs.Fid.{is_live, name, target}
use Rattle.udf_file_model.specs.Name.{canonical, canonical_key}
use Rattle.udf_file_model.specs.Scan.{Placed, fids}

-- what a link says, wherever it stands: a pointer by the address that it names, a FID by its bytes
pub data Says : Type 0 where
  Pointer : Addr → Says
  Fid : List ℕ → Says

-- a link, and its place among those of its holder: 0 for a pointer, and for a FID one more than its offset
pub record Link : Type 0 where
  pub place : ℕ
  pub says : Says

-- the address to which it leads
abbrev pub target_of : Says → Addr
target_of (Pointer a) = a
target_of (Fid fid) = (target fid).at

-- what tells its name from others in its holder: a pointer has a name that no FID has
abbrev pub name_of : Says → List ℕ
name_of (Pointer a) = []
name_of (Fid fid) = canonical_key (canonical (name fid))

-- the bytes that it takes of a directory's content
abbrev pub room_of : Says → ℕ
room_of (Pointer a) = 0
room_of (Fid fid) = length fid

abbrev pub is_pointer : Says → Bool
is_pointer (Pointer a) = true
is_pointer (Fid fid) = false

-- the link that a FID at an offset makes
abbrev pub fid_link : Placed → Link
fid_link p = record { place = suc p.0; says = Fid p.1 }

-- the links of a directory's content: its live FIDs
unfoldable pub fid_links : ℕ → List ℕ → List Link
fid_links size content = map fid_link (filter (λ p. is_live p.1) (fids size content))

-- the address that a pointer names; one of length 0 names none
abbrev pub pointed : Long → Option Addr
pointed long = if long.length == 0 then None else Some long.at

abbrev pub pointer_link : Addr → Link
pointer_link a = record { place = 0; says = Pointer a }

abbrev pub pointer_links : Option Addr → List Link
pointer_links None = []
pointer_links (Some a) = pointer_link a ∷ []
