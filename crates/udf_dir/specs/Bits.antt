-- The bits of characteristics.
use Rattle.std.specs.Prelude.{ℕ}
use Rattle.udf_dir.specs.declared.marks.Marks.{Marks}

abbrev pub bits_of : Marks → ℕ
bits_of marks = marks.0
