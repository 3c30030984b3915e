-- Values of the code as what is wanted of an entry.
use Rattle.std.specs.Prelude.{ℕ, List}
use Rattle.udf_file_model.specs.Wanted.{Wanted}
use Rattle.udf_entry.specs.declared.values.Values.{Values}

-- with this body
abbrev pub wanted_of : Values → List ℕ → Wanted
wanted_of values body = record {
  information = values.information;
  object_size = values.object_size;
  links = values.links;
  id = values.id;
  clear = values.clear;
  body = body;
}
