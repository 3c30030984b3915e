use Rattle.std.proofs.Common.{◌≡◌, take, sum_by, count_ones}
use Rattle.udf_space.proofs.bitmap.Bitmap.free_count.Given as goal

abbrev pub invariant-loop-byte : goal.invariant-loop-byte
invariant-loop-byte l = l.total ≡ sum_by count_ones (take l.byte-index l.byte-items)
