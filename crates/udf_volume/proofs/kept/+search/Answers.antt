use Rattle.udf_volume.proofs.Searching.{none_left}
use Rattle.udf_volume.proofs.kept.+search.Goals as goal

pub returns-in_default-clause-found : goal.returns-in_default-clause-found
returns-in_default-clause-found g t c = λ tells. none_left _ _ _ c.args.places.now c.in_default.ensures.cases
