use Rattle.std.proofs.Common.{◌≡◌, ◌<◌, ℕ, Some, get_or, length}
use Rattle.std.specs.Prelude.{slice_get}
use Rattle.udf_held.specs.declared.held.Held.{Held}
use Rattle.udf_dues.specs.LinkCounts.{links_seen}
use Rattle.udf_dues.proofs.link_counts.link_counts_of.Given as goal

abbrev pub invariant-loop-i : goal.invariant-loop-i
invariant-loop-i l = record {
  len : length l.links.items ≡ l.i;
  each : (i : ℕ) (h : Held) → i < l.i → slice_get l.held i ≡ Some h → get_or l.links.items i 0 ≡ links_seen h (slice_get l.counts i);
}
