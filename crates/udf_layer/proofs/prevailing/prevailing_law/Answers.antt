-- Of some tables one prevails, or none is whole.
use Rattle.udf_layer.proofs.Best.{none_whole, prevails}
use Rattle.udf_layer.proofs.Prevails.{highest_prevails, none_prevails}
use Rattle.udf_layer.proofs.prevailing.prevailing_law.Goals as goal

pub returns-clause-found : goal.returns-clause-found
returns-clause-found c = λ numbers count best. (prevails numbers count best, highest_prevails numbers count best)

pub returns-clause-none : goal.returns-clause-none
returns-clause-none c = λ numbers count. (none_whole numbers count, none_prevails numbers count)
