-- The bytes that a writer of fields was lent.
use Rattle.std.specs.Prelude.{ℕ, List}
use Rattle.std.specs.Borrow.{MutBor}
use Rattle.udf_field.specs.declared.fields_mut.FieldsMut.{FieldsMut}

-- the reference, whose end gives the bytes back to the lender
abbrev pub lent : FieldsMut → MutBor (List ℕ)
lent fields = fields.bytes
