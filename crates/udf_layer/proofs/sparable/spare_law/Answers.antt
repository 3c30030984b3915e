-- Lawful packets are spare.
use Rattle.udf_layer.proofs.Spare.{lawful_spare}
use Rattle.udf_layer.proofs.sparable.spare_law.Goals as goal

pub returns : goal.returns
returns c = λ packet image pairs areas area small among lawful. lawful_spare packet areas image pairs area small among lawful
