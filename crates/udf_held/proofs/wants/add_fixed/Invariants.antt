use Rattle.std.proofs.Common.{◌≡◌, ◌++◌, drop}
use Rattle.udf_found.specs.Wanted.{fixed_wants}
use Rattle.udf_held.proofs.wants.add_fixed.Given as goal

abbrev pub invariant-loop-stretch : goal.invariant-loop-stretch
invariant-loop-stretch g l =
    l.claims ++ fixed_wants (g.P.Parts.blocks l.parts) (drop l.stretch-index l.fixed)
    ≡ l.initial.claims ++ fixed_wants (g.P.Parts.blocks l.parts) l.fixed
