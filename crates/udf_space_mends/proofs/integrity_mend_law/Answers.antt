use Rattle.udf_space_mends.proofs.Integral.{integrity_mended}
use Rattle.udf_space_mends.proofs.integrity_mend_law.Goals as goal

pub returns : goal.returns
returns c = integrity_mended
