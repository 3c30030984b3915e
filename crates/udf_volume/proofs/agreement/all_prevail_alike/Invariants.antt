use Rattle.std.proofs.Common.{◌≡◌, ◌<◌, ℕ, true, get_or}
use Rattle.udf_volume_model.specs.Sequence.{Descriptor}
use Rattle.udf_volume_model.specs.Rules.{same_for}
use Rattle.udf_volume.proofs.agreement.all_prevail_alike.Given as goal

abbrev pub invariant-loop-descriptor : goal.invariant-loop-descriptor
invariant-loop-descriptor l =
    (k : ℕ) (x : Descriptor) → k < l.descriptor-index → same_for l.list l.others (get_or l.wanted k x) ≡ true
