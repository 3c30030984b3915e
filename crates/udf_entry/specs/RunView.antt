-- Runs of the code as descriptors of the definitions.
use Rattle.std.specs.Prelude.{List, map}
use Rattle.udf_field.specs.declared.address.Addr.{Addr}
use Rattle.udf_file_model.specs.Descriptors.{Descriptor}
use Rattle.udf_file_model.specs.Front.{Past}
use Rattle.udf_entry.specs.declared.run.Run.{Run}

abbrev pub run_seen : Run → Descriptor
run_seen run = record { kind = run.kind; length = run.length; at = run.at; holder = run.holder; index = run.index }

abbrev pub runs_seen : List Run → List Descriptor
runs_seen runs = map run_seen runs

abbrev pub past_seen : List Run → List Addr → Past
past_seen runs extents = record { runs = runs_seen runs; extents = extents }
