use Rattle.udf_outside.specs.declared.bench.Role.TheVariants.{Image, Side}
use Rattle.udf_outside.proofs.Moments.{seen_now, now_counts, only_now, synced_from, synced_durable}
use Rattle.udf_outside.proofs.laws.moments_law.Goals as goal

pub returns : goal.returns
returns c = record {
  seen = seen_now;
  counts = now_counts;
  only_now = only_now;
  synced = λ held. (λ synced. (synced_durable held Image synced, synced_durable held Side synced), λ both. synced_from held both.0 both.1);
}
