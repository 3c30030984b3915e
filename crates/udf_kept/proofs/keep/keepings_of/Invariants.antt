use Rattle.std.proofs.Common.{◌≡◌, ◌<◌, ℕ, None, get_or, length}
use Rattle.udf_kept.specs.FirstLinks.{keeping_seen}
use Rattle.udf_kept.proofs.keep.keepings_of.Given as goal

abbrev pub invariant-loop-entry : goal.invariant-loop-entry
invariant-loop-entry l = record {
  len : length l.keepings.items ≡ l.entry;
  each : (i : ℕ) → i < l.entry → get_or l.keepings.items i None ≡ keeping_seen (get_or l.depths i None) (get_or l.first i None);
}
