-- What reading a list gives in the end, by how the descriptors of a body ended.
use Rattle.std.specs.Prelude.{Bool, true, false, List, ◌∷◌}
use Rattle.udf_field.specs.declared.address.Addr.{Addr}
use Rattle.udf_file_model.specs.Pieces.{Piece, Extent}
use Rattle.udf_file_model.specs.Front.{Rules, Past}
use Rattle.udf_entry.specs.Outcome.{Outcome, outcome, ended}
use Rattle.udf_entry.specs.declared.body.Next.{Next}
use Rattle.udf_entry.specs.declared.body.Next.TheVariants.{End, Failed, Onward}

abbrev pub outcome_next : Rules → (Addr → Bool) → Past → (Addr → List Piece) → Next → Outcome
outcome_next r whole past k End = ended past true
outcome_next r whole past k Failed = ended past false
outcome_next r whole past k (Onward x) = outcome r whole past (Extent x ∷ k x)
