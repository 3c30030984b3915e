use Rattle.udf_mended_image.proofs.Repair.{places_stay}
use Rattle.udf_mended_image.proofs.places_law.Goals as goal

pub returns : goal.returns
returns c = places_stay
