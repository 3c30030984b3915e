use Rattle.udf_volume_laws.proofs.Others.{unmoved, elsewhere}
use Rattle.udf_volume_laws.proofs.frame_law.Goals as goal

pub returns-clause-agree : goal.returns-clause-agree
returns-clause-agree c = unmoved

pub returns-clause-elsewhere : goal.returns-clause-elsewhere
returns-clause-elsewhere c = elsewhere
