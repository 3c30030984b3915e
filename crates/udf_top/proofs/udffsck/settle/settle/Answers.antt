use Rattle.std.proofs.Common.{◌≡◌, sym, ◌∙◌, ap, subst, ℕ, Result, Ok}
use Rattle.udf_outside.specs.declared.bench.Role.TheVariants.{Image, Side}
use Rattle.udf_outside.specs.Stops.{Held, bytes_of}
use Rattle.udf_redo.specs.Settled.{clash_in, replay_answer}
use Rattle.udf_redo.specs.Faults.{Answers}
use Rattle.udf_redo.specs.declared.side.SideState.{SideState}
use Rattle.udf_redo.specs.declared.stop.RedoStop.{RedoStop}
use Rattle.udf_top.specs.Repairing.{replaying}
use Rattle.udf_top.proofs.Settling as settling
use Rattle.udf_top.proofs.udffsck.settle.settle.Goals as goal

pub returns-in-Ok-Empty-clause-answer : goal.returns-in-Ok-Empty-clause-answer
returns-in-Ok-Empty-clause-answer g c tells = settling.replaying_empty _ _ (c.in-Ok-Empty.ensures.state tells ∙ ap (λ (s : SideState). Ok s) c.in-Ok-Empty.field-0-is)

pub returns-in-Ok-Empty-clause-image : goal.returns-in-Ok-Empty-clause-image
returns-in-Ok-Empty-clause-image g c tells =
    ap (λ (h : Held). bytes_of Image h) c.side_state.ensures.reads.held ∙ sym (settling.settled_empty _ _ (c.in-Ok-Empty.ensures.state tells ∙ ap (λ (s : SideState). Ok s) c.in-Ok-Empty.field-0-is))

pub returns-in-Ok-Empty-clause-moments : goal.returns-in-Ok-Empty-clause-moments
returns-in-Ok-Empty-clause-moments g c tells goes_on = settling.rests _ _ (c.requires.synced tells) c.side_state.ensures.reads.held goes_on

pub returns-in-Ok-Closed-clause-answer : goal.returns-in-Ok-Closed-clause-answer
returns-in-Ok-Closed-clause-answer g c tells = settling.replaying_closed _ _ (c.in-Ok-Closed.ensures.state tells ∙ ap (λ (s : SideState). Ok s) c.in-Ok-Closed.field-0-is)

pub returns-in-Ok-Closed-clause-image : goal.returns-in-Ok-Closed-clause-image
returns-in-Ok-Closed-clause-image g c tells =
    ap (λ (h : Held). bytes_of Image h) c.side_state.ensures.reads.held ∙ sym (settling.settled_closed _ _ (c.in-Ok-Closed.ensures.state tells ∙ ap (λ (s : SideState). Ok s) c.in-Ok-Closed.field-0-is))

pub returns-in-Ok-Closed-clause-moments : goal.returns-in-Ok-Closed-clause-moments
returns-in-Ok-Closed-clause-moments g c tells goes_on = settling.rests _ _ (c.requires.synced tells) c.side_state.ensures.reads.held goes_on

pub returns-in-Ok-Open-clause-answer : goal.returns-in-Ok-Open-clause-answer
returns-in-Ok-Open-clause-answer g c tells =
    let start = g.B.Bench.held c.args.bench.now in
    let head = c.in-Ok-Open.head in
    let same : replay_answer head (bytes_of Image (g.B.Bench.held c.side_state.new.bench)) ≡ replaying (bytes_of Image start, bytes_of Side start) =
    ap (λ (h : Held). replay_answer head (bytes_of Image h)) c.side_state.ensures.reads.held
    ∙ sym (settling.replaying_open (bytes_of Image start) (bytes_of Side start) head (c.in-Ok-Open.ensures.state tells ∙ ap (λ (s : SideState). Ok s) c.in-Ok-Open.field-0-is)) in
    subst (λ (expected : Result ℕ RedoStop). Answers expected c.replay.result) same (c.replay.ensures.answer tells)

pub returns-in-Ok-Open-clause-image : goal.returns-in-Ok-Open-clause-image
returns-in-Ok-Open-clause-image g c tells =
    let start = g.B.Bench.held c.args.bench.now in
    let held = c.side_state.ensures.reads.held in
    let head = c.in-Ok-Open.head in
    settling.image_replayed (bytes_of Image start) (bytes_of Side start) head (c.in-Ok-Open.ensures.state tells ∙ ap (λ (s : SideState). Ok s) c.in-Ok-Open.field-0-is) (bytes_of Image (g.B.Bench.held c.replay.new.bench)) c.replay.result
    (subst (λ (h : Held). Answers (replay_answer head (bytes_of Image h)) c.replay.result) held (c.replay.ensures.answer tells))
    (settling.with_start _ _ c.replay.result _ held (c.replay.ensures.image tells))

pub returns-in-Ok-Open-clause-moments : goal.returns-in-Ok-Open-clause-moments
returns-in-Ok-Open-clause-moments g c tells goes_on =
    let start = g.B.Bench.held c.args.bench.now in
    let held = c.side_state.ensures.reads.held in
    let log = settling.open_goes_on (bytes_of Image start) (bytes_of Side start) c.in-Ok-Open.head (c.in-Ok-Open.ensures.state tells ∙ ap (λ (s : SideState). Ok s) c.in-Ok-Open.field-0-is) goes_on in
    settling.replays start _ log (settling.from_start start _ _ held log (c.replay.ensures.moments tells))

pub returns-in-Ok-Open-clause-still : goal.returns-in-Ok-Open-clause-still
returns-in-Ok-Open-clause-still g c tells none =
    let start = g.B.Bench.held c.args.bench.now in
    let held = c.side_state.ensures.reads.held in
    let clash = settling.not_open (bytes_of Image start) (bytes_of Side start) c.in-Ok-Open.head (c.in-Ok-Open.ensures.state tells ∙ ap (λ (s : SideState). Ok s) c.in-Ok-Open.field-0-is) none in
    c.replay.ensures.another tells (λ e. clash (ap (λ (h : Held). clash_in c.in-Ok-Open.head (bytes_of Image h)) (sym held) ∙ e)) ∙ held

pub returns-in-Err-clause-answer : goal.returns-in-Err-clause-answer
returns-in-Err-clause-answer g c tells = settling.refused_state _ _ c.in-Err.stop (c.in-Err.ensures.state tells)

pub returns-in-Err-clause-moments : goal.returns-in-Err-clause-moments
returns-in-Err-clause-moments g c tells goes_on = settling.rests _ _ (c.requires.synced tells) c.side_state.ensures.reads.held goes_on
