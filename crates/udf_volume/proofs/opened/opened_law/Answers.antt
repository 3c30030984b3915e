use Rattle.udf_volume.proofs.Openable.{opened_is}
use Rattle.udf_volume.proofs.opened.opened_law.Goals as goal

pub returns : goal.returns
returns c = opened_is
