use Rattle.std.proofs.Common.{◌≡◌, ◌+◌, ◌∷◌, length, take}
use Rattle.std.specs.Str.{chars}
use Rattle.udf_text.specs.Compressed.{wide}
use Rattle.udf_text.proofs.encode.fill_wide.Given as goal

abbrev pub invariant-loop-c : goal.invariant-loop-c
invariant-loop-c l = record {
  passed : l.yielded ≡ take (length l.yielded) (chars l.text);
  place : l.at ≡ 1 + length (wide l.yielded);
  written : take l.at l.into ≡ 16 ∷ wide l.yielded;
}
