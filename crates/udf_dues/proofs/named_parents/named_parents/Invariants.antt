use Rattle.std.proofs.Common.{◌≡◌, ◌<◌, ℕ, Some, None, get_or, length}
use Rattle.std.specs.Prelude.{is_some, slice_get}
use Rattle.udf_held.specs.declared.held.Held.{Held}
use Rattle.udf_dues.specs.NamedParents.{named_seen}
use Rattle.udf_dues.proofs.named_parents.named_parents.Given as goal

abbrev pub invariant-loop-position : goal.invariant-loop-position
invariant-loop-position l = record {
  len : length l.parents.items ≡ l.position;
  each : (i : ℕ) (h : Held) → i < l.position → slice_get l.held i ≡ Some h → get_or l.parents.items i None ≡ named_seen l.root l.file_set l.held h (get_or l.kept i None) (is_some (get_or l.contents i None));
}
