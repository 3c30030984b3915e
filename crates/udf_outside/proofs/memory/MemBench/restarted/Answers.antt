use Rattle.std.proofs.Common.{sym, subst}
use Rattle.udf_outside.specs.Stops.{Held, IsSynced}
use Rattle.udf_outside.proofs.Moments.{begun_synced}
use Rattle.udf_outside.proofs.memory.MemBench.restarted.Goals as goal

pub returns-clause-synced : goal.returns-clause-synced
returns-clause-synced c = subst (λ (held : Held). IsSynced held) (sym c.bench_of-bench.ensures.held) (begun_synced _ _)
