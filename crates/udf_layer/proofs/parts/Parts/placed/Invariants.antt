-- Each address so far is placed.
use Rattle.std.proofs.Common.{◌≡◌, ◌<◌, ℕ, ◌+◌, is_some, true}
use Rattle.udf_file_model.specs.Address.{addr}
use Rattle.udf_layer.proofs.parts.Parts.placed.Given as goal

abbrev pub invariant-loop-i : goal.invariant-loop-i
invariant-loop-i g l = (k : ℕ) → k < l.i → is_some (g.Self.Parts.place l.self (addr l.at.part (l.at.block + k))) ≡ true
