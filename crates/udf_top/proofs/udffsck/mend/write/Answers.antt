use Rattle.std.proofs.Common.{arith, refl, sym, ◌∙◌}
use Rattle.udf_model.proofs.Sizes.{large}
use Rattle.udf_top.proofs.Mending.{quiet, mended_still, empty_plan}
use Rattle.udf_top.proofs.udffsck.mend.write.Goals as goal

pub returns-then-written-eq0-clause-moments : goal.returns-then-written-eq0-clause-moments
returns-then-written-eq0-clause-moments g c tells after rewrites is_plan =
    quiet c.args.volume.now.size _ _ (c.requires.synced tells) (c.requires.free tells) refl after

pub returns-then-written-eq0-clause-done : goal.returns-then-written-eq0-clause-done
returns-then-written-eq0-clause-done g c tells after rewrites is_plan ended =
    let size = c.args.volume.now.size in
    mended_still size _ _ (c.requires.synced tells) (c.requires.free tells) refl after
    (empty_plan size _ c.args.plan.now.blocks after (omega (arith, large size c.requires.size)) rewrites is_plan (sym c.len-written.ensures.count ∙ c.if-written-eq0.true))
