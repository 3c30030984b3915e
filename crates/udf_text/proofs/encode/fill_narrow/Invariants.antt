use Rattle.std.proofs.Common.{◌≡◌, ◌+◌, ◌∷◌, length, take}
use Rattle.udf_text.proofs.encode.fill_narrow.Given as goal

abbrev pub invariant-loop-c : goal.invariant-loop-c
invariant-loop-c l = record {
  place : l.at ≡ 1 + length l.yielded;
  written : take l.at l.into ≡ 8 ∷ l.yielded;
}
