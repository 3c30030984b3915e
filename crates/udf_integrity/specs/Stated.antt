-- What an integrity descriptor states, as the code has it.
use Rattle.std.specs.Prelude.{◌≡◌, List, ℕ}
use Rattle.udf_model.specs.Bytes.{number_at}
use Rattle.udf_rules_model.specs.Integrity.{directories_in, files_in, next_id_in, partitions_in, type_in, use_length_in}
use Rattle.udf_integrity.specs.declared.descriptor.Integrity.{Integrity}

-- these bytes state it; the counts of files are those of a descriptor of one partition
pub record States (block : List ℕ) (i : Integrity) : Type 0 where
  pub kind : i.kind ≡ type_in block
  pub next_id : i.next_id ≡ next_id_in block
  pub partitions : i.partitions ≡ partitions_in block
  pub use_length : i.use_length ≡ use_length_in block
  pub free : i.free ≡ number_at 4 block 80
  pub blocks : i.blocks ≡ number_at 4 block 84
  pub files : partitions_in block ≡ 1 → i.files ≡ files_in block
  pub directories : partitions_in block ≡ 1 → i.directories ≡ directories_in block
