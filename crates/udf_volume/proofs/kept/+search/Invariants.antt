use Rattle.std.proofs.Common.{length}
use Rattle.udf_volume.proofs.kept.+search.Given as goal

abbrev pub decreases-search : goal.decreases-search
decreases-search g l = length l.places.now
