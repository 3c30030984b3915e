use Rattle.std.proofs.Common.{◌≡◌, take, None}
use Rattle.udf_tree_model.specs.Among.{Member}
use Rattle.udf_held.specs.declared.held.Held.{Held}
use Rattle.udf_tree.proofs.pointers.holder_in.Given as goal

abbrev pub invariant-loop-i : goal.invariant-loop-i
invariant-loop-i l = (h : Held) → Member h (take l.i l.held) → h.shape ≡ None → ⊥
