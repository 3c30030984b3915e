use Rattle.udf_dues.proofs.Numbering.{numbered}
use Rattle.udf_dues.proofs.identifiers.identifiers_law.Goals as goal

pub returns : goal.returns
returns c = numbered
