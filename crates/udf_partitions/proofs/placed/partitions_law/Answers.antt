use Rattle.udf_partitions.proofs.Stated.{places_are}
use Rattle.udf_partitions.proofs.placed.partitions_law.Goals as goal

pub returns : goal.returns
returns c = places_are
