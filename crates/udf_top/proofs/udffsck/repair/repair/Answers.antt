use Rattle.std.proofs.Common.{◌≡◌, inr, ◌++◌, sym, ◌∙◌, ap, subst, List, ℕ, Option, Some, Err}
use Rattle.udf_model.specs.Bytes.{IsBytes}
use Rattle.udf_outside.specs.Stops.{Held, bytes_of, pair_of, LeavesOnly, IsSynced}
use Rattle.udf_outside.specs.declared.bench.Role.TheVariants.{Image}
use Rattle.udf_volume_model.specs.Size.{size_of}
use Rattle.udf_redo.specs.declared.stop.RedoStop.{RedoStop}
use Rattle.udf_redo.specs.Faults.{Answers}
use Rattle.udf_redo.specs.Settled.{settled, CanGoOn}
use Rattle.udf_top.specs.Texts.{replayed_text}
use Rattle.udf_top.specs.Repairing.{replaying, mend_said, said_sized}
use Rattle.udf_top.specs.Steps.{IsSettling, Mends, Says}
use Rattle.udf_top.specs.Headline.{Repairs}
use Rattle.udf_top.specs.Udffsck.{Sizes}
use Rattle.udf_top.specs.declared.outcome.Outcome.TheVariants as outcome
use Rattle.udf_top.proofs.Safe.{HasBegun, unbegun, begun}
use Rattle.udf_top.proofs.Ends as ends
use Rattle.udf_top.proofs.udffsck.repair.repair.Goals as goal

pub returns-in_default-clause-repairs : goal.returns-in_default-clause-repairs
returns-in_default-clause-repairs g c tells =
    let old = g.B.Bench.held c.args.bench.now in
    let middle = g.B.Bench.held c.attach_files.new.bench in
    ends.repairs_failed c.args.given old middle (unbegun c.args.given old middle (c.requires.synced tells) c.attach_files.ensures.held) outcome.DeviceFault (λ ended. ended) (λ none. absurd none)

pub returns-in-Err-clause-outcome : goal.returns-in-Err-clause-outcome
returns-in-Err-clause-outcome g c tells =
    let old = g.B.Bench.held c.args.bench.now in
    let middle = g.B.Bench.held c.settle.new.bench in
    let attached = c.attach_files.ensures.held in
    let has : HasBegun c.args.given old middle = subst (λ (h : Held). HasBegun c.args.given h middle) attached
    (begun c.args.given _ middle (subst (λ (h : Held). IsSynced h) (sym attached) (c.requires.synced tells)) (c.settle.ensures.moments tells) (c.settle.ensures.still tells)) in
    let answers : Answers {T = ℕ} (replaying (pair_of old)) (Err c.in-Err.stop) = subst (λ (h : Held). Answers {T = ℕ} (replaying (pair_of h)) (Err c.in-Err.stop)) attached (c.in-Err.ensures.answer tells) in
    ends.outcome_unsettled c.args.given old middle has c.end_unsettled.result c.in-Err.stop answers c.end_unsettled.ensures.ended

pub returns-in-Err-clause-said : goal.returns-in-Err-clause-said
returns-in-Err-clause-said g c tells before told =
    let old = g.B.Bench.held c.args.bench.now in
    let middle = g.B.Bench.held c.settle.new.bench in
    let attached = c.attach_files.ensures.held in
    let has : HasBegun c.args.given old middle = subst (λ (h : Held). HasBegun c.args.given h middle) attached
    (begun c.args.given _ middle (subst (λ (h : Held). IsSynced h) (sym attached) (c.requires.synced tells)) (c.settle.ensures.moments tells) (c.settle.ensures.still tells)) in
    let answers : Answers {T = ℕ} (replaying (pair_of old)) (Err c.in-Err.stop) = subst (λ (h : Held). Answers {T = ℕ} (replaying (pair_of h)) (Err c.in-Err.stop)) attached (c.in-Err.ensures.answer tells) in
    ends.says_unsettled c.args.given old middle has c.end_unsettled.result c.in-Err.stop answers c.end_unsettled.ensures.ended _ before c.args.medium.now c.args.side.now
    (c.end_unsettled.ensures.said before told)

pub returns-in-Err-clause-repairs : goal.returns-in-Err-clause-repairs
returns-in-Err-clause-repairs g c tells =
    let old = g.B.Bench.held c.args.bench.now in
    let middle = g.B.Bench.held c.settle.new.bench in
    let attached = c.attach_files.ensures.held in
    let has : HasBegun c.args.given old middle = subst (λ (h : Held). HasBegun c.args.given h middle) attached
    (begun c.args.given _ middle (subst (λ (h : Held). IsSynced h) (sym attached) (c.requires.synced tells)) (c.settle.ensures.moments tells) (c.settle.ensures.still tells)) in
    let answers : Answers {T = ℕ} (replaying (pair_of old)) (Err c.in-Err.stop) = subst (λ (h : Held). Answers {T = ℕ} (replaying (pair_of h)) (Err c.in-Err.stop)) attached (c.in-Err.ensures.answer tells) in
    ends.repairs_unsettled c.args.given old middle has c.end_unsettled.result c.in-Err.stop answers c.end_unsettled.ensures.ended
    c.end_unsettled.ensures.told (λ e. c.in-Err.ensures.memory (ap (λ (w : RedoStop). Err w) e) ∙ attached)

pub returns-in-Err-say_replayed-clause-said : goal.returns-in-Err-say_replayed-clause-said
returns-in-Err-say_replayed-clause-said g c tells before told =
    let old = g.B.Bench.held c.args.bench.now in
    let middle = g.B.Bench.held c.settle.new.bench in
    let attached = c.attach_files.ensures.held in
    let has : HasBegun c.args.given old middle = subst (λ (h : Held). HasBegun c.args.given h middle) attached
    (begun c.args.given _ middle (subst (λ (h : Held). IsSynced h) (sym attached) (c.requires.synced tells)) (c.settle.ensures.moments tells) (c.settle.ensures.still tells)) in
    let answer = ap (λ (h : Held). replaying (pair_of h)) (sym attached) ∙ c.in-Ok-settle.ensures.answer tells in
    ends.says_stopped c.args.given old middle has c.outcome.result c.in-Ok-settle.replayed answer _ before c.args.medium.now c.args.side.now
    (c.say_replayed.ensures.front before told) c.outcome.ensures.failed

pub returns-in-Err-say_replayed-clause-repairs : goal.returns-in-Err-say_replayed-clause-repairs
returns-in-Err-say_replayed-clause-repairs g c tells =
    let old = g.B.Bench.held c.args.bench.now in
    let middle = g.B.Bench.held c.settle.new.bench in
    let attached = c.attach_files.ensures.held in
    let has : HasBegun c.args.given old middle = subst (λ (h : Held). HasBegun c.args.given h middle) attached
    (begun c.args.given _ middle (subst (λ (h : Held). IsSynced h) (sym attached) (c.requires.synced tells)) (c.settle.ensures.moments tells) (c.settle.ensures.still tells)) in
    let image_is = c.in-Ok-settle.ensures.image tells ∙ ap (λ (h : Held). settled (pair_of h)) attached in
    ends.repairs_failed c.args.given old middle has c.outcome.result c.outcome.ensures.failed
    (λ none. inr (record { holds = image_is; side = c.in-Ok-settle.ensures.free tells; synced = c.in-Ok-settle.ensures.synced tells }))

pub returns-in-Ok-size_for-clause-outcome : goal.returns-in-Ok-size_for-clause-outcome
returns-in-Ok-size_for-clause-outcome g c tells =
    let old = g.B.Bench.held c.args.bench.now in
    let middle = g.B.Bench.held c.settle.new.bench in
    let attached = c.attach_files.ensures.held in
    let has : HasBegun c.args.given old middle = subst (λ (h : Held). HasBegun c.args.given h middle) attached
    (begun c.args.given _ middle (subst (λ (h : Held). IsSynced h) (sym attached) (c.requires.synced tells)) (c.settle.ensures.moments tells) (c.settle.ensures.still tells)) in
    let answer = ap (λ (h : Held). replaying (pair_of h)) (sym attached) ∙ c.in-Ok-settle.ensures.answer tells in
    let image_is : bytes_of Image middle ≡ settled (pair_of old) = c.in-Ok-settle.ensures.image tells ∙ ap (λ (h : Held). settled (pair_of h)) attached in
    let sized : size_of c.args.given (settled (pair_of old)) ≡ Some c.in-Ok-size_for.size = ap (size_of c.args.given) (sym image_is) ∙ c.in-Ok-size_for.ensures.answers tells in
    let moments : CanGoOn (pair_of old) → LeavesOnly old middle (IsSettling (pair_of old)) =
    subst (λ (h : Held). CanGoOn (pair_of h) → LeavesOnly h middle (IsSettling (pair_of h))) attached (c.settle.ensures.moments tells) in
    let bytes : IsBytes (settled (pair_of old)) = subst IsBytes image_is (c.known.ensures tells Image) in
    let mends = subst (λ (h : Held). Mends c.in-Ok-size_for.size c.in-Ok-settle.replayed h (g.B.Bench.held c.mend.new.bench) c.mend.result) c.size_for.ensures.reads.held (c.mend.ensures.mends tells) in
    ends.outcome_mended c.args.given c.in-Ok-size_for.size c.in-Ok-settle.replayed old middle (g.B.Bench.held c.mend.new.bench) c.mend.result sized
    c.in-Ok-size_for.ensures.size bytes has answer moments
    image_is (c.in-Ok-settle.ensures.free tells) (c.in-Ok-settle.ensures.synced tells) mends

pub returns-in-Ok-size_for-clause-said : goal.returns-in-Ok-size_for-clause-said
returns-in-Ok-size_for-clause-said g c tells before told =
    let old = g.B.Bench.held c.args.bench.now in
    let middle = g.B.Bench.held c.settle.new.bench in
    let attached = c.attach_files.ensures.held in
    let has : HasBegun c.args.given old middle = subst (λ (h : Held). HasBegun c.args.given h middle) attached
    (begun c.args.given _ middle (subst (λ (h : Held). IsSynced h) (sym attached) (c.requires.synced tells)) (c.settle.ensures.moments tells) (c.settle.ensures.still tells)) in
    let answer = ap (λ (h : Held). replaying (pair_of h)) (sym attached) ∙ c.in-Ok-settle.ensures.answer tells in
    let image_is : bytes_of Image middle ≡ settled (pair_of old) = c.in-Ok-settle.ensures.image tells ∙ ap (λ (h : Held). settled (pair_of h)) attached in
    let sized : size_of c.args.given (settled (pair_of old)) ≡ Some c.in-Ok-size_for.size = ap (size_of c.args.given) (sym image_is) ∙ c.in-Ok-size_for.ensures.answers tells in
    let front = before ++ replayed_text c.args.medium.now c.in-Ok-settle.replayed in
    let seen : bytes_of Image (g.B.Bench.held c.size_for.new.bench) ≡ settled (pair_of old) =
    ap (λ (h : Held). bytes_of Image h) c.size_for.ensures.reads.held ∙ image_is in
    let said = c.mend.ensures.said tells front (c.in_default-say_replayed.ensures.whole before told) in
    let here = subst (λ (v : List ℕ). Says (g.O.Sink.told c.mend.new.out) front (mend_said c.in-Ok-size_for.size c.args.medium.now v) c.mend.result) seen said in
    ends.says_mended c.args.given old middle has c.mend.result c.in-Ok-settle.replayed answer _ before c.args.medium.now c.args.side.now
    (subst (λ (found : Option ℕ). Says (g.O.Sink.told c.mend.new.out) front (said_sized found c.args.medium.now (settled (pair_of old))) c.mend.result) (sym sized) here)

pub returns-in-Ok-size_for-clause-repairs : goal.returns-in-Ok-size_for-clause-repairs
returns-in-Ok-size_for-clause-repairs g c tells =
    let old = g.B.Bench.held c.args.bench.now in
    let middle = g.B.Bench.held c.settle.new.bench in
    let attached = c.attach_files.ensures.held in
    let has : HasBegun c.args.given old middle = subst (λ (h : Held). HasBegun c.args.given h middle) attached
    (begun c.args.given _ middle (subst (λ (h : Held). IsSynced h) (sym attached) (c.requires.synced tells)) (c.settle.ensures.moments tells) (c.settle.ensures.still tells)) in
    let answer = ap (λ (h : Held). replaying (pair_of h)) (sym attached) ∙ c.in-Ok-settle.ensures.answer tells in
    let image_is : bytes_of Image middle ≡ settled (pair_of old) = c.in-Ok-settle.ensures.image tells ∙ ap (λ (h : Held). settled (pair_of h)) attached in
    let sized : size_of c.args.given (settled (pair_of old)) ≡ Some c.in-Ok-size_for.size = ap (size_of c.args.given) (sym image_is) ∙ c.in-Ok-size_for.ensures.answers tells in
    let moments : CanGoOn (pair_of old) → LeavesOnly old middle (IsSettling (pair_of old)) =
    subst (λ (h : Held). CanGoOn (pair_of h) → LeavesOnly h middle (IsSettling (pair_of h))) attached (c.settle.ensures.moments tells) in
    let bytes : IsBytes (settled (pair_of old)) = subst IsBytes image_is (c.known.ensures tells Image) in
    let mends = subst (λ (h : Held). Mends c.in-Ok-size_for.size c.in-Ok-settle.replayed h (g.B.Bench.held c.mend.new.bench) c.mend.result) c.size_for.ensures.reads.held (c.mend.ensures.mends tells) in
    ends.repairs_mended c.args.given c.in-Ok-size_for.size c.in-Ok-settle.replayed old middle (g.B.Bench.held c.mend.new.bench) c.mend.result sized
    c.in-Ok-size_for.ensures.size bytes has answer moments
    image_is (c.in-Ok-settle.ensures.free tells) (c.in-Ok-settle.ensures.synced tells) mends

pub returns-in-Err-size_for-clause-outcome : goal.returns-in-Err-size_for-clause-outcome
returns-in-Err-size_for-clause-outcome g c tells =
    let old = g.B.Bench.held c.args.bench.now in
    let middle = g.B.Bench.held c.settle.new.bench in
    let attached = c.attach_files.ensures.held in
    let has : HasBegun c.args.given old middle = subst (λ (h : Held). HasBegun c.args.given h middle) attached
    (begun c.args.given _ middle (subst (λ (h : Held). IsSynced h) (sym attached) (c.requires.synced tells)) (c.settle.ensures.moments tells) (c.settle.ensures.still tells)) in
    let answer = ap (λ (h : Held). replaying (pair_of h)) (sym attached) ∙ c.in-Ok-settle.ensures.answer tells in
    let image_is : bytes_of Image middle ≡ settled (pair_of old) = c.in-Ok-settle.ensures.image tells ∙ ap (λ (h : Held). settled (pair_of h)) attached in
    let sizes : Sizes c.args.given (settled (pair_of old)) (Err c.in-Err-size_for.stop) =
    subst (λ (v : List ℕ). Sizes c.args.given v (Err c.in-Err-size_for.stop)) image_is (c.in-Err-size_for.ensures.answers tells) in
    ends.outcome_unsized c.args.given c.in-Ok-settle.replayed old middle c.end_unsized.result has answer image_is
    (c.in-Ok-settle.ensures.free tells) (c.in-Ok-settle.ensures.synced tells) c.in-Err-size_for.stop sizes c.end_unsized.ensures.ended

pub returns-in-Err-size_for-clause-said : goal.returns-in-Err-size_for-clause-said
returns-in-Err-size_for-clause-said g c tells before told =
    let old = g.B.Bench.held c.args.bench.now in
    let middle = g.B.Bench.held c.settle.new.bench in
    let attached = c.attach_files.ensures.held in
    let has : HasBegun c.args.given old middle = subst (λ (h : Held). HasBegun c.args.given h middle) attached
    (begun c.args.given _ middle (subst (λ (h : Held). IsSynced h) (sym attached) (c.requires.synced tells)) (c.settle.ensures.moments tells) (c.settle.ensures.still tells)) in
    let answer = ap (λ (h : Held). replaying (pair_of h)) (sym attached) ∙ c.in-Ok-settle.ensures.answer tells in
    let image_is : bytes_of Image middle ≡ settled (pair_of old) = c.in-Ok-settle.ensures.image tells ∙ ap (λ (h : Held). settled (pair_of h)) attached in
    let sizes : Sizes c.args.given (settled (pair_of old)) (Err c.in-Err-size_for.stop) =
    subst (λ (v : List ℕ). Sizes c.args.given v (Err c.in-Err-size_for.stop)) image_is (c.in-Err-size_for.ensures.answers tells) in
    ends.says_unsized c.args.given c.in-Ok-settle.replayed old middle c.end_unsized.result has answer image_is
    (c.in-Ok-settle.ensures.free tells) (c.in-Ok-settle.ensures.synced tells) c.in-Err-size_for.stop sizes c.end_unsized.ensures.ended
    _ before c.args.medium.now c.args.side.now
    (c.end_unsized.ensures.said (before ++ replayed_text c.args.medium.now c.in-Ok-settle.replayed) (c.in_default-say_replayed.ensures.whole before told))

pub returns-in-Err-size_for-clause-repairs : goal.returns-in-Err-size_for-clause-repairs
returns-in-Err-size_for-clause-repairs g c tells =
    let old = g.B.Bench.held c.args.bench.now in
    let middle = g.B.Bench.held c.settle.new.bench in
    let attached = c.attach_files.ensures.held in
    let has : HasBegun c.args.given old middle = subst (λ (h : Held). HasBegun c.args.given h middle) attached
    (begun c.args.given _ middle (subst (λ (h : Held). IsSynced h) (sym attached) (c.requires.synced tells)) (c.settle.ensures.moments tells) (c.settle.ensures.still tells)) in
    let answer = ap (λ (h : Held). replaying (pair_of h)) (sym attached) ∙ c.in-Ok-settle.ensures.answer tells in
    let image_is : bytes_of Image middle ≡ settled (pair_of old) = c.in-Ok-settle.ensures.image tells ∙ ap (λ (h : Held). settled (pair_of h)) attached in
    let sizes : Sizes c.args.given (settled (pair_of old)) (Err c.in-Err-size_for.stop) =
    subst (λ (v : List ℕ). Sizes c.args.given v (Err c.in-Err-size_for.stop)) image_is (c.in-Err-size_for.ensures.answers tells) in
    subst (λ (h : Held). Repairs c.args.given old h c.end_unsized.result) (sym c.size_for.ensures.reads.held)
    (ends.repairs_unsized c.args.given c.in-Ok-settle.replayed old middle c.end_unsized.result has answer image_is
    (c.in-Ok-settle.ensures.free tells) (c.in-Ok-settle.ensures.synced tells) c.in-Err-size_for.stop sizes c.end_unsized.ensures.ended)
