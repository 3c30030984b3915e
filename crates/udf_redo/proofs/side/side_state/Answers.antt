use Rattle.std.proofs.Common.{◌≡◌, ◌<◌, ◌≤◌, length, take, arith, sym, ◌∙◌, subst, Result}
use Rattle.udf_outside.specs.Stops.{Held, bytes_of, slice_of}
use Rattle.udf_outside.specs.declared.bench.Role.TheVariants.{Side}
use Rattle.udf_redo.specs.declared.side.SideState.{SideState}
use Rattle.udf_redo.specs.declared.stop.RedoStop.{RedoStop}
use Rattle.udf_redo.specs.Log.{name, gate, open_answer}
use Rattle.udf_redo.specs.Faults.{Answers}
use Rattle.udf_redo.proofs.States.{state_short, state_foreign, state_closed, state_opened}
use Rattle.udf_redo.proofs.Finding.{another_name, the_name, front_gate}
use Rattle.udf_redo.proofs.side.side_state.Goals as goal

pub returns-then-length-clause-state : goal.returns-then-length-clause-state
returns-then-length-clause-state g c tells =
    let side = bytes_of Side (g.B.Bench.held c.args.bench.now) in
    let short : length side ≤ 9 = omega (arith, g.met.B.Bench.sizes c.args.bench.now Side tells c.requires.attached, c.requires.length, c.if-length.true) in
    state_short side short

pub returns-then-ne-clause-state : goal.returns-then-ne-clause-state
returns-then-ne-clause-state g c tells =
    let side = bytes_of Side (g.B.Bench.held c.args.bench.now) in
    let long : 9 < length side = omega (arith, g.met.B.Bench.sizes c.args.bench.now Side tells c.requires.attached, c.requires.length, c.if-length.false) in
    let front : c.read_at.new.into ≡ take 9 side = c.in_ok-read_at.ensures.bytes tells in
    state_foreign side long (another_name side c.read_at.new.into c.as_slice.result.now front c.as_slice.ensures c.if-ne.ensures)

pub returns-then-front-ne-GATE_OPEN-clause-state : goal.returns-then-front-ne-GATE_OPEN-clause-state
returns-then-front-ne-GATE_OPEN-clause-state g c tells =
    let side = bytes_of Side (g.B.Bench.held c.args.bench.now) in
    let long : 9 < length side = omega (arith, g.met.B.Bench.sizes c.args.bench.now Side tells c.requires.attached, c.requires.length, c.if-length.false) in
    let front : c.read_at.new.into ≡ take 9 side = c.in_ok-read_at.ensures.bytes tells in
    let named : slice_of side 1 8 ≡ name = the_name side c.read_at.new.into c.as_slice.result.now front c.as_slice.ensures c.if-ne.ensures in
    state_closed side long named (λ is. c.if-front-ne-GATE_OPEN.true (front_gate side c.read_at.new.into front ∙ is))

pub returns-clause-state : goal.returns-clause-state
returns-clause-state g c tells =
    let side = bytes_of Side (g.B.Bench.held c.args.bench.now) in
    let long : 9 < length side = omega (arith, g.met.B.Bench.sizes c.args.bench.now Side tells c.requires.attached, c.requires.length, c.if-length.false) in
    let front : c.read_at.new.into ≡ take 9 side = c.in_ok-read_at.ensures.bytes tells in
    let named : slice_of side 1 8 ≡ name = the_name side c.read_at.new.into c.as_slice.result.now front c.as_slice.ensures c.if-ne.ensures in
    let gated : gate side ≡ 0x4F = sym (front_gate side c.read_at.new.into front) ∙ c.if-front-ne-GATE_OPEN.false in
    let told : Answers (open_answer side) c.open_state.result = subst (λ (h : Held). Answers (open_answer (bytes_of Side h)) c.open_state.result) c.read_at.ensures.held (c.open_state.ensures.state tells) in
    subst (λ (state : Result SideState RedoStop). Answers state c.open_state.result) (sym (state_opened side long named gated)) told
