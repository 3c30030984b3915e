use Rattle.std.proofs.Common.{◌≡◌, drop, nat_eq}
use Rattle.std.specs.Prelude.{find}
use Rattle.udf_tree.proofs.pointers.pointer_in.Given as goal

abbrev pub invariant-loop-link : goal.invariant-loop-link
invariant-loop-link l = find (λ x. nat_eq x.place 0) (drop l.link-index l.fitted) ≡ find (λ x. nat_eq x.place 0) l.fitted
