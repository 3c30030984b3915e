use Rattle.std.proofs.Common.{◌≡◌, ℕ, ◌<◌, ◌+◌, true}
use Rattle.udf_rules.specs.Slots.{is_untaken_by}
use Rattle.udf_rules.proofs.slots.are_untaken.Given as goal

abbrev pub invariant-loop-i : goal.invariant-loop-i
invariant-loop-i l = (k : ℕ) → k < l.i → is_untaken_by l.layout l.places (l.first + k) ≡ true
