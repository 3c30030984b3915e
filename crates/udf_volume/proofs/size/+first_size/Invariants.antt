use Rattle.std.proofs.Common.{length}
use Rattle.udf_volume.proofs.size.+first_size.Given as goal

abbrev pub decreases-first_size : goal.decreases-first_size
decreases-first_size g l = length l.sizes.now
