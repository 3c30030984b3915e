use Rattle.std.proofs.Common.{◌≡◌, sym, ◌∙◌, ap, subst, List, ℕ, true}
use Rattle.udf_model.specs.Size.{is_size}
use Rattle.udf_outside.specs.Stops.{Held, bytes_of}
use Rattle.udf_outside.specs.declared.bench.Role.TheVariants.{Image}
use Rattle.udf_rules.specs.declared.finding.Finding.{Finding}
use Rattle.udf_top.specs.declared.outcome.Outcome.TheVariants as outcome
use Rattle.udf_top.specs.Inspecting.{IsInspected, IsInspectedAt}
use Rattle.udf_top.specs.Texts.{mend_text}
use Rattle.udf_top.specs.Repairing.{written_in, mend_said}
use Rattle.udf_top.specs.Steps.{Mends, Says}
use Rattle.udf_top.proofs.Mending.{clean_text, said_ok, said_refused, empty_is, mends_stopped, mends_refused, mends_unbroken, no_same_file, no_usage}
use Rattle.udf_top.proofs.Said.{says_same}
use Rattle.udf_top.proofs.udffsck.mend.mend.Goals as goal

pub returns-then-is_empty-clause-mends : goal.returns-then-is_empty-clause-mends
returns-then-is_empty-clause-mends g c tells =
    let answers = c.in-Ok.ensures.answers tells in
    mends_unbroken c.args.size _ _ (c.requires.synced tells) (c.requires.free tells) c.inspect.ensures.reads.held c.args.replayed c.end_unbroken.result
    c.in-Ok.found.files.volume answers.accepted (sym answers.findings ∙ empty_is _ c.if-is_empty.ensures) c.end_unbroken.ensures.ended

pub returns-then-is_empty-clause-said : goal.returns-then-is_empty-clause-said
returns-then-is_empty-clause-said g c tells before told =
    let size = c.args.size in
    let image = bytes_of Image (g.B.Bench.held c.args.bench.now) in
    let answers = c.in-Ok.ensures.answers tells in
    says_same _ before _ _ c.end_unbroken.result
    (clean_text c.args.medium.now (written_in size image)
    ∙ ap (λ (fs : List Finding). mend_text c.args.medium.now fs (written_in size image)) (sym (sym answers.findings ∙ empty_is _ c.if-is_empty.ensures))
    ∙ sym (said_ok size image c.args.medium.now c.in-Ok.found.files.volume answers.accepted))
    (c.end_unbroken.ensures.said before told)

pub returns-then-is_empty-clause-usage : goal.returns-then-is_empty-clause-usage
returns-then-is_empty-clause-usage g c = no_usage c.args.replayed c.end_unbroken.result c.end_unbroken.ensures.ended

pub returns-then-is_empty-clause-other : goal.returns-then-is_empty-clause-other
returns-then-is_empty-clause-other g c = no_same_file c.args.replayed c.end_unbroken.result c.end_unbroken.ensures.ended

pub mend_broken-requires-clause-size : goal.mend_broken-requires-clause-size
mend_broken-requires-clause-size g c = subst (λ (n : ℕ). is_size n ≡ true) (sym c.in-Ok.ensures.at.sized) c.requires.size

pub mend_broken-requires-clause-at : goal.mend_broken-requires-clause-at
mend_broken-requires-clause-at g c =
    subst (λ f. IsInspectedAt c.in-Ok.found.files.volume.size f c.in-Ok.found) (sym c.inspect.ensures.reads.files)
    (subst (λ (n : ℕ). IsInspectedAt n (g.B.Bench.files c.args.bench.now) c.in-Ok.found) (sym c.in-Ok.ensures.at.sized) c.in-Ok.ensures.at)

pub mend_broken-requires-clause-inspected : goal.mend_broken-requires-clause-inspected
mend_broken-requires-clause-inspected g c tells =
    subst (λ (h : Held). IsInspected c.in-Ok.found.files.volume.size (bytes_of Image h) c.in-Ok.found) (sym c.inspect.ensures.reads.held)
    (subst (λ (n : ℕ). IsInspected n (bytes_of Image (g.B.Bench.held c.args.bench.now)) c.in-Ok.found) (sym c.in-Ok.ensures.at.sized) (c.in-Ok.ensures.answers tells))

pub returns-else-is_empty-clause-mends : goal.returns-else-is_empty-clause-mends
returns-else-is_empty-clause-mends g c tells =
    subst (λ (h : Held). Mends c.args.size c.args.replayed h (g.B.Bench.held c.mend_broken.new.bench) c.mend_broken.result) c.inspect.ensures.reads.held
    (subst (λ (n : ℕ). Mends n c.args.replayed (g.B.Bench.held c.inspect.new.bench) (g.B.Bench.held c.mend_broken.new.bench) c.mend_broken.result)
    c.in-Ok.ensures.at.sized (c.mend_broken.ensures.mends tells))

pub returns-else-is_empty-clause-said : goal.returns-else-is_empty-clause-said
returns-else-is_empty-clause-said g c tells before told =
    subst (λ (h : Held). Says (g.O.Sink.told c.mend_broken.new.out) before (mend_said c.args.size c.args.medium.now (bytes_of Image h)) c.mend_broken.result) c.inspect.ensures.reads.held
    (subst (λ (n : ℕ). Says (g.O.Sink.told c.mend_broken.new.out) before (mend_said n c.args.medium.now (bytes_of Image (g.B.Bench.held c.inspect.new.bench))) c.mend_broken.result)
    c.in-Ok.ensures.at.sized (c.mend_broken.ensures.said tells before told))

pub returns-in-Err-Missing-clause-mends : goal.returns-in-Err-Missing-clause-mends
returns-in-Err-Missing-clause-mends g c tells =
    mends_refused c.args.size _ _ (c.requires.synced tells) (c.requires.free tells) c.inspect.ensures.reads.held c.args.replayed c.say.result c.in-Err-Missing.missing
    (rw c.in-Err-Missing.field-0-is at (c.in-Err-Missing.ensures.answers tells)) c.say.ensures.kept

pub returns-in-Err-Missing-clause-said : goal.returns-in-Err-Missing-clause-said
returns-in-Err-Missing-clause-said g c tells before told =
    let image = bytes_of Image (g.B.Bench.held c.args.bench.now) in
    says_same _ before _ _ c.say.result
    (sym (said_refused c.args.size image c.args.medium.now c.in-Err-Missing.missing (rw c.in-Err-Missing.field-0-is at (c.in-Err-Missing.ensures.answers tells))))
    (record { whole = λ ended. c.say.ensures.whole before told ended; front = c.say.ensures.front before told })

pub returns-in-Err-Fault-clause-mends : goal.returns-in-Err-Fault-clause-mends
returns-in-Err-Fault-clause-mends g c tells =
    mends_stopped c.args.size _ _ (c.requires.synced tells) (c.requires.free tells) c.inspect.ensures.reads.held c.args.replayed outcome.DeviceFault (λ ended. ended)

pub returns-in-Err-Memory-clause-mends : goal.returns-in-Err-Memory-clause-mends
returns-in-Err-Memory-clause-mends g c tells =
    mends_stopped c.args.size _ _ (c.requires.synced tells) (c.requires.free tells) c.inspect.ensures.reads.held c.args.replayed outcome.Memory (λ ended. ended)
