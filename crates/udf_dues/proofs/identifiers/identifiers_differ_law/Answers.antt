use Rattle.udf_dues.proofs.Differing.{wanted_differ}
use Rattle.udf_dues.proofs.identifiers.identifiers_differ_law.Goals as goal

pub returns : goal.returns
returns c = wanted_differ
