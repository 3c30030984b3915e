-- A list of the code as a list of the definitions.
use Rattle.std.specs.Prelude.{ℕ, Bool, List}
use Rattle.udf_field.specs.declared.address.Addr.{Addr}
use Rattle.udf_file_model.specs.Listing.{Listing}
use Rattle.udf_entry.specs.declared.run.Run.{Run}
use Rattle.udf_entry.specs.RunView.{runs_seen}

abbrev pub listing_seen : List Run → List Addr → ℕ → Bool → Listing
listing_seen runs extents good_length good =
    record { runs = runs_seen runs; extents = extents; good_length = good_length; good = good }
