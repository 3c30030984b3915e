-- The most that fit are so many.
use Rattle.udf_file_model.proofs.Packings.{one_packing, packing_scan}
use Rattle.udf_file_model.proofs.packing_law.Goals as goal

pub returns-clause-one : goal.returns-clause-one
returns-clause-one c = one_packing

pub returns-clause-scanned : goal.returns-clause-scanned
returns-clause-scanned c = λ size parent list limit packing. packing_scan parent list limit size packing
