-- What the planner asks of the volume over whose image it works, and what it puts for its addresses.
use Rattle.std.specs.Prelude.{◌≡◌, ℕ, true, Some, List, ◌++◌}
use Rattle.udf_field.specs.declared.address.Addr.{Addr}
use Rattle.udf_model.specs.Size.{is_size}
use Rattle.udf_outside.specs.Files.{Files}
use Rattle.udf_outside.specs.Stops.{Held, bytes_of}
use Rattle.udf_outside.specs.declared.bench.Role.TheVariants.{Image}
use Rattle.udf_file_model.specs.Address.{Places}
use Rattle.udf_file_model.specs.Listing as listing
use Rattle.udf_file_model.specs.Listing.{volume_of}
use Rattle.udf_volume.specs.Over.{IsOver}
use Rattle.udf_volume.specs.declared.volume.Volume.{Volume}
use Rattle.udf_file_mends.specs.Mends.{edits_of}
use Rattle.udf_file_mends.specs.Spread.{Sited}
use Rattle.udf_wanted.specs.Wanted.{LookAlike, differing}
use Rattle.udf_wanted.specs.Writable.{is_free}

-- it was opened over these files, its block size is one of the profile, and its addresses stand where a mend may write
pub record IsPlannedOver (volume : Volume) (places : Places) (files : Files) : Type 0 where
  pub over : IsOver volume files
  pub size : is_size volume.size ≡ true
  pub free : (a : Addr) (s : ℕ) → places a ≡ Some s → is_free volume s ≡ true

-- the blocks of an image, with the places of addresses
abbrev pub listed : Volume → Held → Places → listing.Volume
listed volume held place = volume_of volume.size (bytes_of Image held) place

-- blocks at addresses were put behind what was wanted, each where another one stands
abbrev pub PutsOf : listing.Volume → List (ℕ × List ℕ) → List (ℕ × List ℕ) → List Sited → Type 0
PutsOf v old new blocks = LookAlike new (old ++ differing v.disk (edits_of v blocks))
