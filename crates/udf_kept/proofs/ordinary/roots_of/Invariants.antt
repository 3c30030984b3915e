use Rattle.std.proofs.Common.{◌≡◌, map, take}
use Rattle.udf_file_model.specs.Address.{same_addr}
use Rattle.udf_kept.proofs.ordinary.roots_of.Given as goal

abbrev pub invariant-loop-entry : goal.invariant-loop-entry
invariant-loop-entry l = l.roots.items ≡ map (λ h. same_addr h.at l.root) (take l.entry-index l.held)
