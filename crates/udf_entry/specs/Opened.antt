-- What is known of the block and the header of a readable entry.
use Rattle.std.specs.Prelude.{ℕ, ◌+◌, ◌≤◌, List, length}
use Rattle.udf_file_model.specs.Entry.{attribute_bytes, descriptor_bytes}

pub record IsOpened (header : ℕ) (block : List ℕ) : Type 0 where
  pub least : 176 ≤ header
  pub most : header ≤ 216
  pub room : header + attribute_bytes header block + descriptor_bytes header block ≤ length block
