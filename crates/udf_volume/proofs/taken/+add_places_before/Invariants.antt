use Rattle.std.proofs.Common.{length}
use Rattle.udf_volume.proofs.taken.+add_places_before.Given as goal

abbrev pub decreases-add_places_before : goal.decreases-add_places_before
decreases-add_places_before l = length l.places.now
