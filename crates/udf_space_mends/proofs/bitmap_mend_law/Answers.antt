use Rattle.udf_space_mends.proofs.Freeing.{bitmap_mended}
use Rattle.udf_space_mends.proofs.bitmap_mend_law.Goals as goal

pub returns : goal.returns
returns c = bitmap_mended
