use Rattle.std.proofs.Common.{◌≡◌, ◌≤◌, sym, ◌∙◌, ap, subst, List, length}
use Rattle.udf_outside.specs.Stops.{Held, bytes_of, LeavesOnly}
use Rattle.udf_outside.specs.declared.bench.Role.TheVariants.{Image}
use Rattle.udf_volume_model.specs.Opened.{plan_of}
use Rattle.udf_volume_model.specs.Plans.{IsRewrite}
use Rattle.udf_mended_image.specs.Accepted.{mend}
use Rattle.udf_mended_image.proofs.Repair.{rewrites_it}
use Rattle.udf_rules.specs.declared.finding.Finding.{Finding}
use Rattle.udf_top.specs.Repairing.{mend_said}
use Rattle.udf_top.specs.Steps.{IsMending}
use Rattle.udf_top.proofs.Outcomes.{nothing_of}
use Rattle.udf_top.proofs.Mending.{plan_is, written_is, text_is, mends_stopped, mends_broken}
use Rattle.udf_top.proofs.Said.{says_failed, says_whole, says_same}
use Rattle.udf_top.proofs.udffsck.mend.mend_broken.Goals as goal

pub returns-in-Err-clause-mends : goal.returns-in-Err-clause-mends
returns-in-Err-clause-mends g c tells =
    mends_stopped _ _ _ (c.requires.synced tells) (c.requires.free tells) c.plan_repair.ensures.reads.held c.args.replayed c.by_work.result c.by_work.ensures.failed

pub returns-in-Err-clause-said : goal.returns-in-Err-clause-said
returns-in-Err-clause-said g c tells before told =
    let text = mend_said c.args.found.files.volume.size c.args.medium.now (bytes_of Image (g.B.Bench.held c.args.bench.now)) in
    says_failed _ before text c.by_work.result (nothing_of _ before text told) c.by_work.ensures.failed

pub returns-in-Err-say_mend-clause-mends : goal.returns-in-Err-say_mend-clause-mends
returns-in-Err-say_mend-clause-mends g c tells =
    mends_stopped _ _ _ (c.requires.synced tells) (c.requires.free tells) c.plan_repair.ensures.reads.held c.args.replayed c.outcome.result c.outcome.ensures.failed

pub returns-in-Err-say_mend-clause-said : goal.returns-in-Err-say_mend-clause-said
returns-in-Err-say_mend-clause-said g c tells before told =
    let size = c.args.found.files.volume.size in
    let image = bytes_of Image (g.B.Bench.held c.args.bench.now) in
    let volume = c.args.found.files.volume in
    let is = c.requires.inspected tells in
    let some = subst (λ (fs : List Finding). 1 ≤ length fs) is.findings c.requires.broken in
    let plan : c.in-Ok.plan.blocks ≡ plan_of size image (mend size image) =
    plan_is size image volume c.in-Ok.plan.blocks is.accepted some (c.in-Ok.ensures.plan tells (c.known.ensures tells Image) is.accepted) in
    let text = text_is size image c.args.medium.now volume c.args.found.findings c.in-Ok.plan.blocks c.len.result is.accepted is.findings plan c.len.ensures.count in
    says_same _ before _ _ c.outcome.result text (says_failed _ before _ c.outcome.result (c.say_mend.ensures.front before told) c.outcome.ensures.failed)

pub returns-clause-mends : goal.returns-clause-mends
returns-clause-mends g c tells =
    let size = c.args.found.files.volume.size in
    let image = bytes_of Image (g.B.Bench.held c.args.bench.now) in
    let volume = c.args.found.files.volume in
    let is = c.requires.inspected tells in
    let some = subst (λ (fs : List Finding). 1 ≤ length fs) is.findings c.requires.broken in
    let plan : c.in-Ok.plan.blocks ≡ plan_of size image (mend size image) =
    plan_is size image volume c.in-Ok.plan.blocks is.accepted some (c.in-Ok.ensures.plan tells (c.known.ensures tells Image) is.accepted) in
    let old = g.B.Bench.held c.args.bench.now in
    let new = g.B.Bench.held c.write.new.bench in
    let held = c.plan_repair.ensures.reads.held in
    let rewrites : IsRewrite size (bytes_of Image (g.B.Bench.held c.plan_repair.new.bench)) (mend size image) =
    subst (λ (h : Held). IsRewrite size (bytes_of Image h) (mend size image)) (sym held) (rewrites_it size image c.requires.size (c.known.ensures tells Image)) in
    let is_plan : c.in-Ok.plan.blocks ≡ plan_of size (bytes_of Image (g.B.Bench.held c.plan_repair.new.bench)) (mend size image) =
    plan ∙ ap (λ (h : Held). plan_of size (bytes_of Image h) (mend size image)) (sym held) in
    mends_broken size c.args.replayed (length c.in-Ok.plan.blocks) old new c.write.result volume is.accepted some
    (ap length plan ∙ written_is size image)
    c.write.ensures.written
    (subst (λ (h : Held). LeavesOnly h new (IsMending size (bytes_of Image h) (mend size image))) held (c.write.ensures.moments tells (mend size image) rewrites is_plan))
    (λ ended. c.write.ensures.done tells (mend size image) rewrites is_plan ended)
    (λ unopened. c.write.ensures.unopened unopened ∙ held)

pub returns-clause-said : goal.returns-clause-said
returns-clause-said g c tells before told =
    let size = c.args.found.files.volume.size in
    let image = bytes_of Image (g.B.Bench.held c.args.bench.now) in
    let volume = c.args.found.files.volume in
    let is = c.requires.inspected tells in
    let some = subst (λ (fs : List Finding). 1 ≤ length fs) is.findings c.requires.broken in
    let plan : c.in-Ok.plan.blocks ≡ plan_of size image (mend size image) =
    plan_is size image volume c.in-Ok.plan.blocks is.accepted some (c.in-Ok.ensures.plan tells (c.known.ensures tells Image) is.accepted) in
    let text = text_is size image c.args.medium.now volume c.args.found.findings c.in-Ok.plan.blocks c.len.result is.accepted is.findings plan c.len.ensures.count in
    says_same _ before _ _ c.write.result text (says_whole _ before _ c.write.result (c.in_default.ensures.whole before told))
