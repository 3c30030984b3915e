use Rattle.std.proofs.Common.{drop, List, ℕ, ap, ◌∙◌}
use Rattle.udf_outside.specs.declared.bench.Role.TheVariants.{Image, Side}
use Rattle.udf_outside.specs.Stops.{bytes_of}
use Rattle.udf_outside.proofs.Runs.{leaves_weaker}
use Rattle.udf_redo.specs.Log.{state_of}
use Rattle.udf_redo.proofs.Gates.{closing, closed_state, some_open}
use Rattle.udf_redo.specs.Front.{IsGated}
use Rattle.udf_redo.specs.Runs.{IsClosing}
use Rattle.udf_redo.proofs.gate.close_gate.Goals as goal

pub set_gate-requires-clause-some : goal.set_gate-requires-clause-some
set_gate-requires-clause-some g c tells = some_open _ _ (c.requires.log tells)

pub returns-in_err-set_gate-clause-moments : goal.returns-in_err-set_gate-clause-moments
returns-in_err-set_gate-clause-moments g c tells =
    let old = g.B.Bench.held c.args.bench.now in
    leaves_weaker old _ (IsGated (bytes_of Image old) (drop 1 (bytes_of Side old))) (IsClosing (bytes_of Side old) (bytes_of Image old)) (closing _ _ (c.requires.log tells) (c.requires.done tells)) (c.set_gate.ensures.moments tells)

pub returns-clause-moments : goal.returns-clause-moments
returns-clause-moments g c tells =
    let old = g.B.Bench.held c.args.bench.now in
    leaves_weaker old _ (IsGated (bytes_of Image old) (drop 1 (bytes_of Side old))) (IsClosing (bytes_of Side old) (bytes_of Image old)) (closing _ _ (c.requires.log tells) (c.requires.done tells)) (c.set_gate.ensures.moments tells)

pub returns-clause-closed : goal.returns-clause-closed
returns-clause-closed g c tells =
    let old = g.B.Bench.held c.args.bench.now in
    ap (λ (s : List ℕ). state_of s) (c.in_ok-set_gate.ensures.side tells) ∙ closed_state (bytes_of Side old) (bytes_of Image old) (c.requires.log tells)
