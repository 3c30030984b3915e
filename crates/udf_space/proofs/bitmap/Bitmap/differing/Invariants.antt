use Rattle.std.proofs.Common.{◌≡◌, take, sum_by, count_ones}
use Rattle.std.specs.Int.Bits.{bit_xor}
use Rattle.std.specs.Simd.Lanes.{zip2}
use Rattle.udf_space.proofs.bitmap.Bitmap.differing.Given as goal

abbrev pub invariant-loop-i : goal.invariant-loop-i
invariant-loop-i l = l.total ≡ sum_by count_ones (take l.i (zip2 bit_xor l.self-inside.bytes.items l.other-inside.bytes.items))
