use Rattle.udf_volume.specs.Best.{IsBest}
use Rattle.std.proofs.Common.{◌<◌, length}
use Rattle.std.specs.Option.{ForSome}
use Rattle.udf_volume.proofs.prevailing.best_of.Given as goal

abbrev pub invariant-loop-i : goal.invariant-loop-i
invariant-loop-i l = record {
  best : IsBest l.kind l.subject l.list l.i l.best;
  inside : ForSome l.best (λ b. b < length l.list);
}
