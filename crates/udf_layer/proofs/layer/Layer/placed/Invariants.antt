-- Each block so far stands at a sector.
use Rattle.std.proofs.Common.{◌≡◌, ◌<◌, ℕ, ◌+◌, is_some, true}
use Rattle.udf_layer.proofs.layer.Layer.placed.Given as goal

abbrev pub invariant-loop-i : goal.invariant-loop-i
invariant-loop-i g l = (k : ℕ) → k < l.i → is_some (g.Self.Layer.place l.self (l.block + k)) ≡ true
