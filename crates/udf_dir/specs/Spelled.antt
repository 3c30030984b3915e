-- A canonical name, as its type holds it.
use Rattle.udf_dir.specs.declared.canonical.Spelling.{Spelling}
use Rattle.udf_dir.specs.declared.canonical.Spelling.TheVariants.{Decoded, Raw}
use Rattle.udf_file_model.specs.Name.{Canonical, Characters, Undecoded}

abbrev pub spelled : Spelling → Canonical
spelled (Decoded name) = Characters name
spelled (Raw bytes) = Undecoded bytes.items
