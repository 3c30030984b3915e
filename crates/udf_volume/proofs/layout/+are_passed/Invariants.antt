use Rattle.std.proofs.Common.{length}
use Rattle.udf_volume.proofs.layout.+are_passed.Given as goal

abbrev pub decreases-are_passed : goal.decreases-are_passed
decreases-are_passed g l = length l.places.now
