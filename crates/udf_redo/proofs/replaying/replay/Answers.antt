use Rattle.std.proofs.Common.{◌≡◌, refl, sym, ◌∙◌, ap, subst, None}
use Rattle.udf_outside.specs.Stops.{Held, bytes_of, LeavesOnly}
use Rattle.udf_outside.specs.declared.bench.Role.TheVariants.{Image, Side}
use Rattle.udf_redo.specs.Log.{head_in}
use Rattle.udf_redo.specs.Settled.{clash_in, applied_to, IsOpenLog}
use Rattle.udf_redo.specs.Runs.{IsApplying}
use Rattle.udf_redo.proofs.Clashes.{open_without, state_head}
use Rattle.udf_redo.proofs.Turns.{quiet_applying, then_closing}
use Rattle.udf_redo.proofs.replaying.replay.Goals as goal

pub returns-in_err-block-clause-moments : goal.returns-in_err-block-clause-moments
returns-in_err-block-clause-moments g c tells log = let start = g.B.Bench.held c.args.bench.now in quiet_applying start log start (c.requires.synced tells) refl

pub returns-in_err-clash-clause-moments : goal.returns-in_err-clash-clause-moments
returns-in_err-clash-clause-moments g c tells log = quiet_applying (g.B.Bench.held c.args.bench.now) log _ (c.requires.synced tells) c.clash_of.ensures.reads.held

pub returns-in-Some-clause-moments : goal.returns-in-Some-clause-moments
returns-in-Some-clause-moments g c tells log = quiet_applying (g.B.Bench.held c.args.bench.now) log _ (c.requires.synced tells) c.clash_of.ensures.reads.held

pub replay_records-requires-clause-log : goal.replay_records-requires-clause-log
replay_records-requires-clause-log g c tells =
    let start = g.B.Bench.held c.args.bench.now in
    let none : clash_in c.args.head.now (bytes_of Image start) ≡ None = sym (c.in_ok-clash.ensures.clash tells) ∙ c.in_default.is in
    subst (λ (h : Held). IsOpenLog (bytes_of Side h) (bytes_of Image h)) (sym c.clash_of.ensures.reads.held) (open_without (bytes_of Side start) (bytes_of Image start) c.args.head.now (c.requires.log tells) none)

pub replay_records-requires-clause-head : goal.replay_records-requires-clause-head
replay_records-requires-clause-head g c tells = ap (λ (h : Held). head_in (bytes_of Side h)) c.clash_of.ensures.reads.held ∙ state_head _ _ (c.requires.log tells)

pub returns-in_err-close_gate-clause-moments : goal.returns-in_err-close_gate-clause-moments
returns-in_err-close_gate-clause-moments g c tells log =
    let start = g.B.Bench.held c.args.bench.now in
    let middle = g.B.Bench.held c.replay_records.new.bench in
    let first : LeavesOnly start middle (IsApplying (bytes_of Side start) (bytes_of Image start)) =
    subst (λ (h : Held). LeavesOnly h middle (IsApplying (bytes_of Side h) (bytes_of Image h))) c.clash_of.ensures.reads.held (c.replay_records.ensures.moments tells) in
    let done : bytes_of Image middle ≡ applied_to (bytes_of Side start) (bytes_of Image start) =
    c.in_ok-replay_records.ensures.image tells ∙ ap (λ (h : Held). applied_to (bytes_of Side h) (bytes_of Image h)) c.clash_of.ensures.reads.held in
    then_closing start middle _ first done (c.close_gate.ensures.moments tells)

pub returns-clause-moments : goal.returns-clause-moments
returns-clause-moments g c tells log =
    let start = g.B.Bench.held c.args.bench.now in
    let middle = g.B.Bench.held c.replay_records.new.bench in
    let first : LeavesOnly start middle (IsApplying (bytes_of Side start) (bytes_of Image start)) =
    subst (λ (h : Held). LeavesOnly h middle (IsApplying (bytes_of Side h) (bytes_of Image h))) c.clash_of.ensures.reads.held (c.replay_records.ensures.moments tells) in
    let done : bytes_of Image middle ≡ applied_to (bytes_of Side start) (bytes_of Image start) =
    c.in_ok-replay_records.ensures.image tells ∙ ap (λ (h : Held). applied_to (bytes_of Side h) (bytes_of Image h)) c.clash_of.ensures.reads.held in
    then_closing start middle _ first done (c.close_gate.ensures.moments tells)
