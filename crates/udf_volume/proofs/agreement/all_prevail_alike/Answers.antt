use Rattle.std.proofs.Common.{arith, sym}
use Rattle.std.proofs.lemmas.List.Sums.{list_all-from_AllPass}
use Rattle.udf_volume_model.specs.Rules.{same_for}
use Rattle.udf_volume.proofs.agreement.all_prevail_alike.Goals as goal

pub returns : goal.returns
returns c =
    sym (list_all-from_AllPass (same_for c.args.list.now c.args.others.now) c.args.wanted.now
    (λ k x lt. c.loop-descriptor.invariant k x (omega (arith, c.loop-descriptor-test.false, lt))))
