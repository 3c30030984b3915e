use Rattle.udf_volume_model.proofs.Listed.{listed_is}
use Rattle.udf_volume_model.proofs.sequence_law.Goals as goal

pub returns : goal.returns
returns c = listed_is
