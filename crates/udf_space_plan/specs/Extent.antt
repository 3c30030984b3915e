-- What is put for addresses of a volume.
use Rattle.std.specs.Prelude.{ℕ, List, ◌++◌}
use Rattle.udf_file_mends.specs.Mends.{edits_of}
use Rattle.udf_file_mends.specs.Spread.{Sited}
use Rattle.udf_file_model.specs.Address.{Places}
use Rattle.udf_file_model.specs.Listing as listing
use Rattle.udf_file_model.specs.Listing.{volume_of}
use Rattle.udf_outside.specs.Stops.{Held, bytes_of}
use Rattle.udf_outside.specs.declared.bench.Role.TheVariants.{Image}
use Rattle.udf_volume.specs.declared.volume.Volume.{Volume}
use Rattle.udf_wanted.specs.Wanted.{LookAlike}

-- the blocks of an image, with the places of addresses
abbrev pub placed_blocks : Volume → Held → Places → listing.Volume
placed_blocks volume held place = volume_of volume.size (bytes_of Image held) place

-- blocks were put at the sectors of their addresses, behind what was wanted
abbrev pub PutsAll : listing.Volume → List (ℕ × List ℕ) → List (ℕ × List ℕ) → List Sited → Type 0
PutsAll v old new blocks = LookAlike new (old ++ edits_of v blocks)
