use Rattle.udf_volume.specs.Best.{AreBest}
use Rattle.udf_volume.proofs.ranked.Ranked.of.Given as goal

abbrev pub invariant-loop-at : goal.invariant-loop-at
invariant-loop-at l = AreBest l.list l.at l.best
