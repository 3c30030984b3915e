use Rattle.udf_mended_rules.proofs.Space.{bitmap_unbroken, integrity_unbroken}
use Rattle.udf_mended_rules.proofs.space_law.Goals as goal

pub returns-clause-bitmap : goal.returns-clause-bitmap
returns-clause-bitmap c = bitmap_unbroken

pub returns-clause-integrity : goal.returns-clause-integrity
returns-clause-integrity c = integrity_unbroken
