-- The bits of an ICB tag's flags.
use Rattle.std.specs.Prelude.{ℕ}
use Rattle.udf_entry.specs.declared.icb_flags.IcbFlags.{IcbFlags}

abbrev pub bits_of : IcbFlags → ℕ
bits_of flags = flags.0
