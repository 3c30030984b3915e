use Rattle.std.proofs.Common.{◌≡◌, ◌≤◌, length, take}
use Rattle.std.specs.Str.{chars, encode_utf8_all}
use Rattle.std.specs.String.{string_bytes}
use Rattle.udf_text.specs.Compressed.{encoding}
use Rattle.udf_text.specs.Size.{size_of}
use Rattle.udf_text.proofs.name.front_of.Given as goal

abbrev pub invariant-loop-c : goal.invariant-loop-c
invariant-loop-c l = record {
  size : l.size ≡ size_of l.yielded;
  passed : l.yielded ≡ take (length l.yielded) (chars l.text);
  pushed : string_bytes l.front ≡ encode_utf8_all l.yielded;
  fits : length (encoding l.yielded) ≤ l.bytes;
}
