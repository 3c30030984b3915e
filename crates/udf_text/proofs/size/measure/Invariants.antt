use Rattle.std.proofs.Common.{◌≡◌, length, take}
use Rattle.std.specs.Str.{chars}
use Rattle.udf_text.specs.Size.{size_of}
use Rattle.udf_text.proofs.size.measure.Given as goal

abbrev pub invariant-loop-c : goal.invariant-loop-c
invariant-loop-c l = record {
  size : l.size ≡ size_of l.yielded;
  front : l.yielded ≡ take (length l.yielded) (chars l.text);
}
